-- Messages that were made up to a moment.
use Rattle.std.specs.Prelude.{ℕ, ◌≤◌, List, Contains}
use Rattle.messages.specs.declared.message.Message.{Message}
use Rattle.messages.specs.declared.message.Message.TheVariants.{Request, Verdict}

-- the moment at which somebody asked or answered
abbrev pub made_at : Message → ℕ
made_at (Request r) = r.at
made_at (Verdict v) = v.at

-- each message of the set was made at the moment or before it
abbrev pub AreMadeBy : ℕ → List Message → Type 0
AreMadeBy moment messages = (m : Message) → Contains messages m → made_at m ≤ moment
