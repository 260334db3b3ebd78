-- What the reader of words has taken in; only private clauses cite this.
use Rattle.std.specs.Prelude.{◌≡◌, map, string_bytes}
use Rattle.findings.specs.Asking.{Heard, IsMomentOf}
use Rattle.findings.specs.declared.pick.Pick.{Pick}
use Rattle.findings.specs.declared.words.Said.{Said}

-- the options' words
pub record AreChosen (pick : Pick) (h : Heard) : Type 0 where
  pub from : IsMomentOf h.from pick.from
  pub until : IsMomentOf h.until pick.until
  pub host : h.host ≡ pick.host
  pub person : h.person ≡ pick.person

-- all of it
pub record Hears (said : Said) (h : Heard) : Type 0 where
  pub places : map string_bytes said.places.items ≡ h.places
  pub chosen : AreChosen said.pick h
  pub as_json : h.as_json ≡ said.as_json
  pub choice : h.choice ≡ said.choice
  pub is_ended : h.is_ended ≡ said.is_ended
