-- The write links of a session that began with none.
use Rattle.std.proofs.Common.{◌≡◌, ◌⊎◌, inl, inr, ⊎_elim, ℕ, List, Option, Some, None, IsSome, refl, sym, ◌∙◌, subst}
use Rattle.hdfs_cluster.specs.Shown.{Shown}
use Rattle.hdfs_commands.specs.Session.{HasLink, OnlyOwnLinks, writer_of}
use Rattle.hdfs_commands.specs.declared.session.Session.{Session}

some_none : {X : Type 0} (o : Option X) → IsSome o → o ≡ None → ⊥
some_none (Some x) is none = absurd (cc)
some_none None is none = absurd (cc)

-- Since the start the links that were open stay, and those that weren't aren't open but for the session's own.
pub record OwnLinks (start now : Shown) (session : Session) : Type 0 where
  pub others : (link : ℕ) → IsSome (start.writes link) → now.writes link ≡ start.writes link
  pub none : (link : ℕ) → start.writes link ≡ None → (now.writes link ≡ None) ⊎ HasLink session link
  pub fresh : (link : ℕ) → HasLink session link → start.writes link ≡ None

none_or_some : {X : Type 0} (o : Option X) → (o ≡ None) ⊎ IsSome o
none_or_some None = inl refl
none_or_some (Some x) = inr refl

-- at the start
pub own_start : (start : Shown) (session : Session) → ((path : List ℕ) → writer_of session path ≡ None) → OwnLinks start start session
own_start start session empty = record {
  others = λ link some. refl;
  none = λ link none. inl none;
  fresh = λ link has. (let is = has.2 in let none = empty has.0 in absurd (cc (is, none)));
}

module _ (start now new : Shown) (session session' : Session) (own : OwnLinks start now session) where
  -- it is not the session's own
  foreign : (link : ℕ) → IsSome (start.writes link) → HasLink session link → ⊥
  foreign link some has = some_none (start.writes link) some (own.fresh link has)

  -- and goes on so
  pub own_next : OnlyOwnLinks now session new session' → OwnLinks start new session'
  own_next links = record {
    others = λ link some. links.others link (subst IsSome (sym (own.others link some)) some) (foreign link some) ∙ own.others link some;
    none = λ link none. links.none link (own.none link none);
    fresh = λ link has. ⊎_elim
        (λ was. own.fresh link was)
        (λ none. ⊎_elim (λ away. away) (λ some. absurd (some_none (start.writes link) some (sym (own.others link some) ∙ none))) (none_or_some (start.writes link)))
        (links.fresh link has);
  }

  -- once its own are ended, the links are those of the start
  pub own_end : ((link : ℕ) → IsSome (now.writes link) → (HasLink session link → ⊥) → new.writes link ≡ now.writes link)
      → ((link : ℕ) → (now.writes link ≡ None) ⊎ HasLink session link → new.writes link ≡ None) → (link : ℕ) → new.writes link ≡ start.writes link
  own_end others none link = ⊎_elim
      (λ away. none link (own.none link away) ∙ sym away)
      (λ some. others link (subst IsSome (sym (own.others link some)) some) (foreign link some) ∙ own.others link some)
      (none_or_some (start.writes link))
