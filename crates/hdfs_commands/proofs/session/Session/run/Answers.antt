-- What comes of a command is what its call says.
use Rattle.std.proofs.Common.{◌∙◌, ap, refl, sym, List, ℕ}
use Rattle.std.proofs.lemmas.Result.{err_from_is_err_and}
use Rattle.hdfs_model.specs.declared.commands.Command.TheVariants as commands
use Rattle.hdfs_commands.specs.Session.{opened_of}
use Rattle.hdfs_commands.proofs.Executed.{IsThere, executes_called, is_there, misplaced_executes, target_executes, there_as}
use Rattle.hdfs_commands.proofs.ReadActs.{not_open_by}
use Rattle.hdfs_commands.proofs.session.Session.run.Given.{Over}
use Rattle.hdfs_commands.proofs.session.Session.run.Goals as goal
use Rattle.hdfs_commands.proofs.session.Session.run.Goals.{Else-not-is_placed}

-- where nothing refuses the command
there : (g : Over) (c : Else-not-is_placed g) → IsThere g.C.Cluster.allows g.C.Cluster.may_answer c.args.self.now c.args.command.now c.in_ok-path.path
there g c =
    is_there g.C.Cluster.allows g.C.Cluster.may_answer c.args.command.now c.requires.stands c.requires.allowed c.in_ok-path.ensures.ok c.as_str.ensures
    (c.is_placed.ensures.placed c.if-not-is_placed.false)

pub returns-in_err-path : goal.returns-in_err-path
returns-in_err-path g c =
    let p = err_from_is_err_and c.from_residual.result c.from_residual.ensures.1 in
    rw (p.1, p.2) (target_executes c.requires.stands c.requires.answered c.in_err-path.ensures.err)

pub returns-then-not-is_placed : goal.returns-then-not-is_placed
returns-then-not-is_placed g c =
    misplaced_executes c.requires.stands c.requires.answered c.in_ok-path.ensures.ok c.as_str.ensures (c.is_placed.ensures.misplaced c.if-not-is_placed.true)

pub returns-in-Create : goal.returns-in-Create
returns-in-Create g c = executes_called c.in-Create.is refl c.in_ok-path.ensures.ok.0 (c.create.ensures c.in-Create.path)

pub create-requires-clause-allowed : goal.create-requires-clause-allowed
create-requires-clause-allowed g c = (there_as c.in-Create.is refl (there g (goal.at.create-requires-clause-allowed g c).Else-not-is_placed)).lets

pub returns-in-Append : goal.returns-in-Append
returns-in-Append g c = executes_called c.in-Append.is refl c.in_ok-path.ensures.ok.0 c.append.ensures

pub append-requires-clause-allowed : goal.append-requires-clause-allowed
append-requires-clause-allowed g c = (there_as c.in-Append.is refl (there g (goal.at.append-requires-clause-allowed g c).Else-not-is_placed)).lets

pub returns-in-Write : goal.returns-in-Write
returns-in-Write g c = executes_called (c.in-Write.is ∙ ap (λ (bytes : List ℕ). commands.Write c.in-Write.path bytes) (sym c.as_slice.ensures)) c.as_str-in-Write.ensures c.in_ok-path.ensures.ok.0 (c.write.ensures c.in-Write.path)

pub write-requires-clause-allowed : goal.write-requires-clause-allowed
write-requires-clause-allowed g c = (there_as c.in-Write.is c.as_str-in-Write.ensures (there g (goal.at.write-requires-clause-allowed g c).Else-not-is_placed)).lets

pub returns-in-Close : goal.returns-in-Close
returns-in-Close g c = executes_called c.in-Close.is c.as_str-in-Close.ensures c.in_ok-path.ensures.ok.0 (c.close.ensures c.in-Close.path)

pub close-requires-clause-allowed : goal.close-requires-clause-allowed
close-requires-clause-allowed g c = (there_as c.in-Close.is c.as_str-in-Close.ensures (there g (goal.at.close-requires-clause-allowed g c).Else-not-is_placed)).lets

pub returns-in-Read : goal.returns-in-Read
returns-in-Read g c = executes_called c.in-Read.is c.as_str-in-Read.ensures c.in_ok-path.ensures.ok.0 c.read.ensures

pub read-requires-clause-allowed : goal.read-requires-clause-allowed
read-requires-clause-allowed g c = (there_as c.in-Read.is c.as_str-in-Read.ensures (there g (goal.at.read-requires-clause-allowed g c).Else-not-is_placed)).lets

pub read-requires-clause-placed : goal.read-requires-clause-placed
read-requires-clause-placed g c = not_open_by (opened_of c.args.self.now c.as_str-in-Read.result.now) (there_as c.in-Read.is c.as_str-in-Read.ensures (there g (goal.at.read-requires-clause-placed g c).Else-not-is_placed)).placed

pub returns-in-Mkdirs : goal.returns-in-Mkdirs
returns-in-Mkdirs g c = executes_called c.in-Mkdirs.is c.as_str-in-Mkdirs.ensures c.in_ok-path.ensures.ok.0 (c.make_directory.ensures c.in-Mkdirs.path)

pub make_directory-requires-clause-allowed : goal.make_directory-requires-clause-allowed
make_directory-requires-clause-allowed g c = (there_as c.in-Mkdirs.is c.as_str-in-Mkdirs.ensures (there g (goal.at.make_directory-requires-clause-allowed g c).Else-not-is_placed)).lets

pub make_directory-requires-clause-placed : goal.make_directory-requires-clause-placed
make_directory-requires-clause-placed g c = not_open_by (opened_of c.args.self.now c.as_str-in-Mkdirs.result.now) (there_as c.in-Mkdirs.is c.as_str-in-Mkdirs.ensures (there g (goal.at.make_directory-requires-clause-placed g c).Else-not-is_placed)).placed

pub returns-in-Delete : goal.returns-in-Delete
returns-in-Delete g c = executes_called c.in-Delete.is c.as_str-in-Delete.ensures c.in_ok-path.ensures.ok.0 (c.delete.ensures c.in-Delete.path)

pub delete-requires-clause-allowed : goal.delete-requires-clause-allowed
delete-requires-clause-allowed g c = (there_as c.in-Delete.is c.as_str-in-Delete.ensures (there g (goal.at.delete-requires-clause-allowed g c).Else-not-is_placed)).lets

pub delete-requires-clause-placed : goal.delete-requires-clause-placed
delete-requires-clause-placed g c = (there_as c.in-Delete.is c.as_str-in-Delete.ensures (there g (goal.at.delete-requires-clause-placed g c).Else-not-is_placed)).placed

pub returns-in-Info : goal.returns-in-Info
returns-in-Info g c = executes_called c.in-Info.is c.as_str-in-Info.ensures c.in_ok-path.ensures.ok.0 c.info.ensures

pub info-requires-clause-allowed : goal.info-requires-clause-allowed
info-requires-clause-allowed g c = (there_as c.in-Info.is c.as_str-in-Info.ensures (there g (goal.at.info-requires-clause-allowed g c).Else-not-is_placed)).lets

pub info-requires-clause-placed : goal.info-requires-clause-placed
info-requires-clause-placed g c = not_open_by (opened_of c.args.self.now c.as_str-in-Info.result.now) (there_as c.in-Info.is c.as_str-in-Info.ensures (there g (goal.at.info-requires-clause-placed g c).Else-not-is_placed)).placed

pub returns-in-List : goal.returns-in-List
returns-in-List g c = executes_called c.in-List.is c.as_str-in-List.ensures c.in_ok-path.ensures.ok.0 c.list.ensures

pub list-requires-clause-allowed : goal.list-requires-clause-allowed
list-requires-clause-allowed g c = (there_as c.in-List.is c.as_str-in-List.ensures (there g (goal.at.list-requires-clause-allowed g c).Else-not-is_placed)).lets
