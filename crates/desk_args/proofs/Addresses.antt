-- What a text says of where to listen.
use Rattle.std.proofs.Common.{◌≡◌, ◌≢◌, ◌∙◌, ◌++◌, ◌+◌, ◌-◌, ◌<◌, ◌||◌, ◌&&◌, ◌==◌, ℕ, [], ◌∷◌, Bool, true, false}
use Rattle.std.proofs.Common.{ap, arith, inl, inr, refl, subst, sym, length, get_or, take, drop, codes, add-one, append_assoc, length-append, suc}
use Rattle.std.proofs.Math.Seq.{drop-append-add, drop-cons, get_or-append_right, get_or-append_seam}
use Rattle.std.proofs.lemmas.Bool.{and_parts, cases_order, or_left, or_right}
use Rattle.std.proofs.lemmas.Bool.Decides.{Decides-eqb}
use Rattle.std.proofs.lemmas.List.{append_cancel_left, length-take-le, take-append-drop}
use Rattle.std.proofs.lemmas.List.Folds.{list_all_at}
use Rattle.std.proofs.lemmas.Slice.Eq.{starts_is}
use Rattle.std.specs.Char.{is_ascii_digit}
use Rattle.std.specs.List.{list_all}
use Rattle.std.specs.Str.{bytes_eq}
use Rattle.clap.specs.Words.{Text}
use Rattle.desk_args.specs.CommandLine.{BeginsAsSocket, IsHostAndPort, SaysAddress, SaysNoAddress, is_port, is_socket_path}
use Rattle.desk_args.specs.declared.task.Address.{Address}
use Rattle.desk_args.specs.declared.task.Address.TheVariants.{Tcp, Unix}

-- ---- a port has digits alone, and no colon

digits : (port : Text) → is_port port ≡ true → list_all is_ascii_digit port ≡ true
digits port is = (and_parts _ _ (and_parts _ _ (and_parts _ _ is).1).1).0

no_colon : (port : Text) (i : ℕ) → is_port port ≡ true → i < length port → get_or port i 0 ≡ 58 → ⊥
no_colon port i is less colon =
    let other : is_ascii_digit (get_or port i 0) ≡ false = rw colon refl in
    let both : true ≡ false = sym (digits port is) ∙ list_all_at is_ascii_digit port i 0 less other in
    cc

nonempty : (host : Text) → host ≢ [] → 0 < length host
nonempty [] named = absurd (named refl)
nonempty (b ∷ host) named = omega arith

-- ---- a host and a port are cut at the last colon

last_of : (host port : Text) (k : ℕ) → host ≢ [] → is_port port ≡ true → k < length (host ++ 58 ∷ port) → get_or (host ++ 58 ∷ port) k 0 ≡ 58
    → ((i : ℕ) → k < i → i < length (host ++ 58 ∷ port) → get_or (host ++ 58 ∷ port) i 0 ≢ 58)
    → (0 < k) × (is_port (drop (k + 1) (host ++ 58 ∷ port)) ≡ true)
last_of host port k named is less colon last =
    let long : length (host ++ 58 ∷ port) ≡ length host + length (58 ∷ port) = length-append host (58 ∷ port) in
    elim (cases_order k (length host)) as (λ _. (0 < k) × (is_port (drop (k + 1) (host ++ 58 ∷ port)) ≡ true)) [
      | inl same ↦
          let some : 0 < length host = nonempty host named in
          rw same (some, rw (drop-append-add host (58 ∷ port) 1) is)
      | inr (inl before) ↦ absurd (last (length host) before (omega (arith, long)) (get_or-append_seam host 58 port 0))
      | inr (inr after) ↦
          let at : get_or (58 ∷ port) (k - length host) 0 ≡ 58 = sym (get_or-append_right host (58 ∷ port) k 0 (omega (arith, after))) ∙ colon in
          let next : k - length host ≡ suc (k - length host - 1) = omega (arith, after) in
          let digit : get_or port (k - length host - 1) 0 ≡ 58 = subst (λ (n : ℕ). get_or (58 ∷ port) n 0 ≡ 58) next at in
          absurd (no_colon port (k - length host - 1) is (omega (arith, long, less, after)) digit)
    ]

whole : (text : Text) (h : IsHostAndPort text) → text ≡ h.host ++ 58 ∷ h.port
whole text h = h.is ∙ append_assoc h.host (codes ":") h.port

pub last_colon : (text : Text) (k : ℕ) → k < length text → get_or text k 0 ≡ 58
    → ((i : ℕ) → k < i → i < length text → get_or text i 0 ≢ 58)
    → IsHostAndPort text → (0 < k) × (is_port (drop (k + 1) text) ≡ true)
last_colon text k less colon last h =
    subst (λ (t : Text). k < length t → get_or t k 0 ≡ 58 → ((i : ℕ) → k < i → i < length t → get_or t i 0 ≢ 58) → (0 < k) × (is_port (drop (k + 1) t) ≡ true))
    (sym (whole text h)) (last_of h.host h.port k h.named h.numbered) less colon last

pub some_colon : (text : Text) → ((i : ℕ) → i < length text → get_or text i 0 ≢ 58) → IsHostAndPort text → ⊥
some_colon text none h =
    let long : length (h.host ++ 58 ∷ h.port) ≡ length h.host + length (58 ∷ h.port) = length-append h.host (58 ∷ h.port) in
    let same : length text ≡ length (h.host ++ 58 ∷ h.port) = ap (λ (t : Text). length t) (whole text h) in
    none (length h.host) (omega (arith, same, long))
    (ap (λ (t : Text). get_or t (length h.host) 0) (whole text h) ∙ get_or-append_seam h.host 58 h.port 0)

-- what stands around a colon, if the part after it is a port
pub cut_at : (text : Text) (k : ℕ) → 0 < k → k < length text → get_or text k 0 ≡ 58 → is_port (drop (k + 1) text) ≡ true → IsHostAndPort text
cut_at text k some less colon is = record {
  host = take k text;
  port = drop (k + 1) text;
  is =
      let cut : drop k text ≡ 58 ∷ drop (k + 1) text = rw add-one (drop-cons text k 0 less ∙ ap (λ (b : ℕ). b ∷ drop (suc k) text) colon) in
      sym (take-append-drop k text)
      ∙ (ap (λ (rest : Text). take k text ++ rest) cut ∙ sym (append_assoc (take k text) (codes ":") (drop (k + 1) text)));
  named = λ none.
      let long : length (take k text) ≡ k = length-take-le k text (omega (arith, less)) in
      let zero : length (take k text) ≡ 0 = ap (λ (t : Text). length t) none in
      absurd (omega (arith, long, zero, some));
  numbered = is;
}

-- ---- the two forms

slash_first : (path : Text) → is_socket_path path ≡ true → path ≡ codes "/" ++ drop 1 path
slash_first path is = (starts_is Decides-eqb path (codes "/") _ refl).0 (and_parts _ _ is).0

begins : (text path : Text) → text ≡ codes "unix:" ++ path → is_socket_path path ≡ true → BeginsAsSocket text
begins text path e is = (drop 1 path, e ∙ ap (λ (p : Text). codes "unix:" ++ p) (slash_first path is))

-- a text says one address at most
pub one_address : (text : Text) (a b : Address) → SaysAddress text a → SaysAddress text b → a ≡ b
one_address text (Tcp p) (Tcp q) s t = ap (λ (x : Text). Tcp x) (sym s.0 ∙ t.0)
one_address text (Tcp p) (Unix q) s t = absurd (s.2 (begins text q t.0 t.1))
one_address text (Unix p) (Tcp q) s t = absurd (t.2 (begins text p s.0 s.1))
one_address text (Unix p) (Unix q) s t = ap (λ (x : Text). Unix x) (append_cancel_left (codes "unix:") p q (sym s.0 ∙ t.0))

other_text : (text : Text) → bytes_eq (take 6 text) (codes "unix:/") ≡ false → BeginsAsSocket text → ⊥
other_text text other socket =
    let both : true ≡ false = sym (ap (λ (t : Text). bytes_eq (take 6 t) (codes "unix:/")) socket.1) ∙ other in
    cc

pub says_port : (host port text : Text) → text ≡ host ++ codes ":" ++ port → host ≢ [] → is_port port ≡ true
    → bytes_eq (take 6 text) (codes "unix:/") ≡ false → SaysAddress text (Tcp text)
says_port host port text is named numbered other =
    (refl, record { host = host; port = port; is = is; named = named; numbered = numbered }, other_text text other)

-- ---- texts that say no address

pub no_path : (text path : Text) → text ≡ codes "unix:" ++ path → BeginsAsSocket text → is_socket_path path ≡ false → SaysNoAddress text
no_path text path same socket bad (Tcp place) says = absurd (says.2 socket)
no_path text path same socket bad (Unix other) says =
    let paths : path ≡ other = append_cancel_left (codes "unix:") path other (sym same ∙ says.0) in
    let both : true ≡ false = sym says.1 ∙ (ap is_socket_path (sym paths) ∙ bad) in
    cc

pub no_form : (text : Text) → (BeginsAsSocket text → ⊥) → (IsHostAndPort text → ⊥) → SaysNoAddress text
no_form text other bad (Tcp place) says = bad says.1
no_form text other bad (Unix path) says = other (begins text path says.0 says.1)

-- a colon with a port after it
abbrev pub ends_in_port : Text → Bool
ends_in_port [] = false
ends_in_port (b ∷ rest) = ((b == 58) && is_port rest) || ends_in_port rest

ends : (host port : Text) → is_port port ≡ true → ends_in_port (host ++ 58 ∷ port) ≡ true
ends [] port is = or_left _ _ is
ends (b ∷ host) port is = or_right _ _ (ends host port is)

ends_later : (host port : Text) → host ≢ [] → is_port port ≡ true → ends_in_port (drop 1 (host ++ 58 ∷ port)) ≡ true
ends_later [] port named is = absurd (named refl)
ends_later (b ∷ host) port named is = ends host port is

pub says_none : (text : Text) → ends_in_port (drop 1 text) ≡ false → is_socket_path (drop 5 text) ≡ false → SaysNoAddress text
says_none text no_port no_path (Tcp place) (same, h, other) =
    let port : ends_in_port (drop 1 text) ≡ true =
    subst (λ (t : Text). ends_in_port (drop 1 t) ≡ true) (sym (whole text h)) (ends_later h.host h.port h.named h.numbered) in
    let both : true ≡ false = sym port ∙ no_port in
    cc
says_none text no_port no_path (Unix path) (same, is) =
    let rest : drop 5 text ≡ path = ap (λ (t : Text). drop 5 t) same in
    let both : true ≡ false = sym is ∙ (ap is_socket_path (sym rest) ∙ no_path) in
    cc
