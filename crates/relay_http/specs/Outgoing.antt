-- A response on its way out: its bytes, and how many of them went out. For the program alone.
use Rattle.std.specs.Prelude.{ℕ, List, [], Bool, string_bytes}
use Rattle.std.specs.Prelude.{if◌then◌else◌}
use Rattle.relay_http.specs.declared.body.Body.{Body}
use Rattle.relay_http.specs.declared.body.Body.TheVariants.{Fixed, Made}

abbrev pub body_bytes : Body → List ℕ
body_bytes (Fixed bytes) = bytes.now
body_bytes (Made text) = string_bytes text

-- the body, where it is wanted
abbrev pub part_of : Body → Bool → List ℕ
part_of body with_body = if with_body then body_bytes body else []
