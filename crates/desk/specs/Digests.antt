-- The digests that name a roster and a base.
use Rattle.std.specs.Prelude.{ℕ, List, [], ◌∷◌, ◌++◌}
use Rattle.hex.specs.Hex.{encode_lower}
use Rattle.sha2.specs.Sha256.{sha256}
use Rattle.sudo_words.specs.Bytes.{space}
use Rattle.sudo_policy.specs.Printing.{canon}
use Rattle.sudo_policy.specs.declared.entry.Entry.{Entry}

-- the SHA-256 digest of a text (FIPS 180-4), as 64 hex digits in lower case
unfoldable pub digest_text : List ℕ → List ℕ
digest_text text = encode_lower (sha256 text)

-- the digest of the roster's text, a space, and that of the base's canonical text
unfoldable pub digests_text : (roster : List ℕ) → (base : List Entry) → List ℕ
digests_text roster base = digest_text roster ++ space ∷ [] ++ digest_text (canon base)
