-- Canonical JSON: what a JSON writer writes for a value whose numbers are whole.
use Rattle.std.specs.Prelude.{◌≡◌, ℕ, false, List, Some, IsUtf8}
use Rattle.serde_json.specs.Data.{Data}
use Rattle.serde_json.specs.Read.{read}
use Rattle.serde_json.specs.Written.{compact_text, has_float}

-- The bytes are the canonical text of this value. They are UTF-8 and JSON (RFC 8259, nested at most
-- 127 deep) that reads as the value; each of its numbers is whole, from -2^63 to 2^64 - 1, since
-- every other one reads as a float; and they are the very bytes that are written for it: no space,
-- members once and in byte order, the shortest escapes, plain digits.
pub record IsTextOf (body : List ℕ) (value : Data) : Type 0 where
  pub utf8 : IsUtf8 body
  pub reads : read body ≡ Some value
  pub whole : has_float value ≡ false
  pub written : body ≡ compact_text value

abbrev pub IsCanonicalText : List ℕ → Type 0
IsCanonicalText body = (value : Data) × IsTextOf body value
