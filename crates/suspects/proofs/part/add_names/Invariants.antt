use Rattle.std.proofs.Common.{◌≡◌, ◌++◌, List}
use Rattle.messages.specs.declared.message.Message.{Message}
use Rattle.messages.specs.declared.request_name.RequestName.{RequestName}
use Rattle.suspects.specs.private.Parts.{AreWritable, IsPartFor}
use Rattle.suspects.proofs.part.add_names.Given as goal

abbrev pub invariant-loop-name : goal.invariant-loop-name
invariant-loop-name l = record {
  seen : List RequestName;
  split : seen ++ l.name-iterator ≡ l.names.keys;
  is : (set : List Message) (before : List RequestName) → AreWritable set l.gathered → IsPartFor set before l.fn.part → IsPartFor set (before ++ seen) l.part;
}
