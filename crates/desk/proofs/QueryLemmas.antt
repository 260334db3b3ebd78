-- Lists of what a keeper holds.
use Rattle.std.proofs.Common.{List}
use Rattle.messages.specs.Names.{SameMessages}
use Rattle.messages.specs.declared.message.Message.{Message}
use Rattle.store_tables.specs.Sets.{Lists}

-- Two lists of what is held have the same messages.
pub same_listed : (S : Message → Type 0) (known set : List Message) → Lists S known → Lists S set → SameMessages known set
same_listed S known set held listed m = (λ h. (listed m).0 ((held m).1 h), λ h. (held m).0 ((listed m).1 h))
