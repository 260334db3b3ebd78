-- A text with a head asks for what the head does.
use Rattle.std.proofs.Common.{◌≡◌, ◌≤◌, ℕ, List, [], ◌∷◌, ◌++◌, Bool, ◌&&◌, true, sym, ap, ◌∙◌, subst, inl, drop, length, map, arith, nat_lt, nat_le}
use Rattle.std.specs.List.{list_all}
use Rattle.std.proofs.lemmas.Bool.{and_parts}
use Rattle.std.proofs.lemmas.Bool.Decides.{nat_tests}
use Rattle.std.proofs.lemmas.List.{take_all}
use Rattle.std.proofs.lemmas.List.Sums.{AllPass-from_list_all}
use Rattle.std.proofs.lemmas.Str.{IsUtf8-from_ascii}
use Rattle.std.proofs.Math.Seq.{drop-append_seam}
use Rattle.httparse.specs.Grammar.{Field, IsField, IsRequestHead, IsToken, RequestHead, crlf}
use Rattle.httparse.specs.Grammar.{is_token, is_token_byte, is_uri_byte, is_value_byte, print_request}
use Rattle.httparse.specs.Spans.{name_and_value}
use Rattle.relay_http.specs.Request.{Request}
use Rattle.relay_http.specs.RequestBytes.{IsHttpRequest, DatesRequest, front, request_by}
use Rattle.relay_http.specs.declared.offered.Offered.{Offered}
use Rattle.relay_http.proofs.RouteLemmas.{below_ascii}

abbrev is_field : Field → Bool
is_field f = is_token f.name && list_all is_value_byte f.raw

-- each part of a head is of its class
abbrev pub is_request_head : RequestHead → Bool
is_request_head h =
    (is_token h.method && (nat_lt 0 (length h.target) && (list_all is_uri_byte h.target && list_all (λ b. nat_lt b 128) h.target)))
    && (nat_le h.minor 1 && list_all is_field h.fields)

token_is : (bytes : List ℕ) → is_token bytes ≡ true → IsToken bytes
token_is bytes h =
    let parts = and_parts _ _ h in
    let some : nat_lt 0 (length bytes) ≡ true = parts.0 in
    (grind (arith, nat_tests), AllPass-from_list_all is_token_byte bytes parts.1)

field_is : (f : Field) → is_field f ≡ true → IsField f
field_is f h = let parts = and_parts _ _ h in record { name = token_is f.name parts.0; raw = AllPass-from_list_all is_value_byte f.raw parts.1 }

pub head_is : (h : RequestHead) → is_request_head h ≡ true → IsRequestHead h
head_is h e =
    let method = and_parts _ _ (and_parts _ _ e).0 in
    let ends = and_parts _ _ (and_parts _ _ e).1 in
    let target = and_parts _ _ method.1 in
    let bytes = and_parts _ _ target.1 in
    let some : nat_lt 0 (length h.target) ≡ true = target.0 in
    let minor : nat_le h.minor 1 ≡ true = ends.0 in record {
      method = token_is h.method method.0;
      target = (grind (arith, nat_tests), AllPass-from_list_all is_uri_byte h.target bytes.0);
      target_text = IsUtf8-from_ascii h.target (below_ascii h.target bytes.1);
      minor = grind (arith, nat_tests);
      fields = λ k d inside. field_is _ (AllPass-from_list_all is_field h.fields ends.1 k d inside);
    }

-- a head in one spelling: no empty line before it, a space before each value, and each line ended by a carriage return and a newline
abbrev pub spelled : (method target : List ℕ) → (minor : ℕ) → List (List ℕ × List ℕ) → RequestHead
spelled method target minor fields = record {
  blank = [];
  method = method;
  target = target;
  minor = minor;
  line_end = crlf;
  fields = map (λ (f : List ℕ × List ℕ). record { name = f.0; raw = 32 ∷ f.1; end = crlf }) fields;
  last = crlf;
}

pub worked : (offered : Offered) (h : RequestHead) (rest bytes : List ℕ) (request : Request ℕ)
    → is_request_head h ≡ true → bytes ≡ print_request h ++ rest → nat_le (length bytes) 8192 ≡ true → nat_le (length h.fields) 32 ≡ true
    → DatesRequest (request_by offered h.method h.target h.minor (map name_and_value h.fields) rest) request
    → IsHttpRequest offered bytes request
unfolding front
worked offered h rest bytes request is parts short few dates =
    let size : length bytes ≤ 8192 = grind (arith, nat_tests) in
    let count : length h.fields ≤ 32 = grind (arith, nat_tests) in
    let behind : rest ≡ drop (length (print_request h)) bytes =
    sym (drop-append_seam (print_request h) rest) ∙ ap (λ (b : List ℕ). drop (length (print_request h)) b) (sym parts) in
    inl (
      h,
      ((rest, (head_is h is, take_all 8192 bytes size ∙ parts)), count),
      subst (λ (r : List ℕ). DatesRequest (request_by offered h.method h.target h.minor (map name_and_value h.fields) r) request) behind dates,
    )
