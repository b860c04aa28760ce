-- What the code keeps of a glob, as the signs that it stands for.
use Rattle.std.specs.Prelude.{◌≡◌, ℕ, List, map, Some}
use Rattle.hdfs_globs.specs.Globs.{One, Sign, Member, signs, has_wildcard}
use Rattle.hdfs_globs.specs.Globs.One.{itself, any, among, outside}
use Rattle.hdfs_globs.specs.Globs.Sign.{one, many, group_begins, or_else, group_ends}
use Rattle.hdfs_globs.specs.declared.glob_set.SetMember.{SetMember}
use Rattle.hdfs_globs.specs.declared.glob_set.Wanted.{Wanted}
use Rattle.hdfs_globs.specs.declared.glob_set.Wanted.TheVariants.{Itself, Any, Among, Outside}
use Rattle.hdfs_globs.specs.declared.glob.Part.{Part}
use Rattle.hdfs_globs.specs.declared.glob.Part.TheVariants.{One as OneCharacter, Many, GroupBegins, OrElse, GroupEnds}
use Rattle.hdfs_globs.specs.declared.glob.GlobPattern.{GlobPattern}

-- the member of a set
abbrev pub member_of : SetMember → Member
member_of m = record { character = m.character; escaped = m.escaped }

-- what a character has to be
abbrev pub one_of : Wanted → One
one_of (Itself c) = itself c
one_of Any = any
one_of (Among ranges) = among ranges.items
one_of (Outside ranges) = outside ranges.items

-- the sign of a part
abbrev pub sign_of : Part → Sign
sign_of (OneCharacter wanted) = one (one_of wanted)
sign_of Many = many
sign_of GroupBegins = group_begins
sign_of OrElse = or_else
sign_of GroupEnds = group_ends

-- the pattern keeps the signs of this glob, and whether a wildcard stands in it
pub record IsPatternOf (glob : List ℕ) (g : GlobPattern) : Type 0 where
  pub signs : signs glob ≡ Some (map sign_of g.parts.items)
  pub wildcard : g.wildcard ≡ has_wildcard glob
