-- Writes, one after the other.
use Rattle.std.proofs.Common.{◌+◌, ℕ, List, [], ◌++◌, Option, Some, None, Result, Ok, Err, sym, ap, ◌∙◌, subst, take, drop, append_assoc, take-append-drop}
use Rattle.std.proofs.lemmas.List.{append-nil}
use Rattle.std.proofs.Math.Seq.{take-add}
use Rattle.std.specs.Io.KnownBytes.{Appends}
use Rattle.relay_http.specs.Sent.{Began, Sends}

pub appends_both : (a b c : Option (List ℕ)) (xs ys : List ℕ) → Appends a b xs → Appends b c ys → Appends a c (xs ++ ys)
appends_both None b c xs ys h k = tt
appends_both (Some s) None c xs ys h k = absurd h
appends_both (Some s) (Some t) None xs ys h k = absurd k
appends_both (Some s) (Some t) (Some u) xs ys h k = k ∙ ap (λ (l : List ℕ). l ++ ys) h ∙ append_assoc s xs ys

pub appends_next : (a b c : Option (List ℕ)) (bytes : List ℕ) (sent taken : ℕ) → Appends a b (take sent bytes)
    → Appends b c (take taken (drop sent bytes)) → Appends a c (take (sent + taken) bytes)
appends_next a b c bytes sent taken before here =
    subst (λ (l : List ℕ). Appends a c l) (sym (take-add sent taken bytes)) (appends_both a b c (take sent bytes) (take taken (drop sent bytes)) before here)

-- a write after a beginning takes nothing
pub began_at : (a b c : Option (List ℕ)) (bytes : List ℕ) (sent : ℕ) → Appends a b (take sent bytes) → Appends b c [] → Began a c bytes
began_at a b c bytes sent before none = (
  take sent bytes,
  (drop sent bytes, sym (take-append-drop sent bytes)),
  subst (λ (l : List ℕ). Appends a c l) (append-nil (take sent bytes)) (appends_both a b c (take sent bytes) [] before none),
)

-- the first of two parts was not sent whole
pub began_first : (a b : Option (List ℕ)) (xs ys : List ℕ) → Began a b xs → Began a b (xs ++ ys)
began_first a b xs ys h = (h.0, (h.1.0 ++ ys, ap (λ (l : List ℕ). l ++ ys) h.1.1 ∙ append_assoc h.0 h.1.0 ys), h.2)

-- the first was sent, and then the second, or a beginning of it
pub sends_behind : {A E : Type 0} (a b c : Option (List ℕ)) (r : Result A E) (xs ys : List ℕ) → Appends a b xs → Sends b c r ys → Sends a c r (xs ++ ys)
sends_behind a b c (Ok x) xs ys h k = appends_both a b c xs ys h k
sends_behind a b c (Err e) xs ys h k = (
  xs ++ k.0,
  (k.1.0, ap (λ (l : List ℕ). xs ++ l) k.1.1 ∙ sym (append_assoc xs k.0 k.1.0)),
  appends_both a b c xs k.0 h k.2,
)
