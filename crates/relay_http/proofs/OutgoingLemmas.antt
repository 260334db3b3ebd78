-- The rest of a response, and the part that a write took.
use Rattle.std.proofs.Common.{◌≡◌, ◌≤◌, ◌+◌, ◌-◌, ℕ, List, [], ◌++◌, Option, Result, Ok, Err, IfOk, sym, ap, ◌∙◌}
use Rattle.std.proofs.Common.{subst, take, drop, length, arith, ◌==◌, leb, append_assoc, length-append, length-drop, take-append-drop, ◌∷◌}
use Rattle.std.proofs.lemmas.List.{append-nil, drop-take, drop-append-le, take-append-le}
use Rattle.std.proofs.lemmas.Bool.Decides.{nat_tests}
use Rattle.std.proofs.Math.Seq.{drop-append-add}
use Rattle.std.specs.Io.KnownBytes.{Appends, WriteAppends}
use Rattle.relay_http.specs.Sent.{Began}
use Rattle.relay_http.proofs.SentLemmas.{appends_both}
use Rattle.relay_http.proofs.RequestLemmas.{take_rest}

-- a write of the rest took a beginning of the rest
pub took : {E : Type 0} (old new : Option (List ℕ)) (r : Result ℕ E) (bytes left : List ℕ) → bytes ≡ left → WriteAppends old new r bytes
    → IfOk r (λ n. Appends old new (take n left))
took old new (Ok n) bytes left e h = subst (λ (l : List ℕ). Appends old new (take n l)) e h
took old new (Err x) bytes left e h = tt

-- the same of a write of a beginning of what is left
pub took_front : {E : Type 0} (old new : Option (List ℕ)) (r : Result ℕ E) (bytes behind left : List ℕ) → left ≡ bytes ++ behind
    → IfOk r (λ n. n ≤ length bytes) → WriteAppends old new r bytes → IfOk r (λ n. Appends old new (take n left))
took_front old new (Ok n) bytes behind left e within h =
    subst (λ (l : List ℕ). Appends old new l) (sym (ap (λ (l : List ℕ). take n l) e ∙ take-append-le n bytes behind within)) h
took_front old new (Err x) bytes behind left e within h = tt

-- what is left is in the body
pub left_of_body : (head body : List ℕ) (sent : ℕ) → length head ≤ sent
    → take (length body - (sent - length head)) (drop (sent - length head) body) ≡ drop sent (head ++ body)
left_of_body head body sent le =
    let sum : length head + (sent - length head) ≡ sent = omega (arith, le) in
    take_rest body (sent - length head) ∙ sym (drop-append-add head body (sent - length head)) ∙ ap (λ (n : ℕ). drop n (head ++ body)) sum

-- what is left begins in the head
pub left_of_head : (head body : List ℕ) (sent : ℕ) → sent ≤ length head → drop sent (head ++ body) ≡ take (length head - sent) (drop sent head) ++ body
left_of_head head body sent le = drop-append-le sent head body le ∙ ap (λ (l : List ℕ). l ++ body) (sym (take_rest head sent))

-- what is left is in the buffer
pub left_in_buffer : (buffer all : List ℕ) (sent end : ℕ) → sent ≤ end → take end buffer ≡ all → take (end - sent) (drop sent buffer) ≡ drop sent all
left_in_buffer buffer all sent end le is =
    let sum : sent + (end - sent) ≡ end = omega (arith, le) in
    sym (drop-take sent (end - sent) buffer) ∙ ap (λ (n : ℕ). drop sent (take n buffer)) sum ∙ ap (λ (l : List ℕ). drop sent l) is

-- nothing is left
pub none_left : (front body left : List ℕ) (sent : ℕ) → drop sent (front ++ body) ≡ left → sent ≤ length (front ++ body)
    → leb (length front + length body) sent ≡ (length left == 0)
none_left front body left sent e fits =
    let lengths : length left ≡ (length front + length body) - sent = ap length (sym e) ∙ length-drop sent (front ++ body)
    ∙ ap (λ (n : ℕ). n - sent) (length-append front body) in
    let within : sent ≤ length front + length body = omega (arith, fits, length-append front body) in
    by (length front + length body) (length left) lengths within
  where
    by : (all n : ℕ) → n ≡ all - sent → sent ≤ all → leb all sent ≡ (n == 0)
    by all n is within = grind (arith, nat_tests)

-- one more write
pub sent_on : (first old new : Option (List ℕ)) (all left now : List ℕ) (n : ℕ)
    → (front : List ℕ) × (all ≡ front ++ left) × Appends first old front → now ≡ drop n left → Appends old new (take n left)
    → (front : List ℕ) × (all ≡ front ++ now) × Appends first new front
sent_on first old new all left now n x is took_n = (
  x.0 ++ take n left,
  x.1 ∙ ap (λ (l : List ℕ). x.0 ++ l) (sym (take-append-drop n left)) ∙ sym (append_assoc x.0 (take n left) (drop n left))
      ∙ ap (λ (l : List ℕ). (x.0 ++ take n left) ++ l) (sym is),
  appends_both first old new x.0 (take n left) x.2 took_n,
)

-- all went out
pub all_sent : (first new : Option (List ℕ)) (all left : List ℕ) → (front : List ℕ) × (all ≡ front ++ left) × Appends first new front → length left ≡ 0
    → Appends first new all
all_sent first new all [] x none = subst (λ (l : List ℕ). Appends first new l) (sym (x.1 ∙ append-nil x.0)) x.2
all_sent first new all (b ∷ left) x none = absurd (omega (arith, none))

-- a beginning went out
pub some_sent : (first old new : Option (List ℕ)) (all left : List ℕ) → (front : List ℕ) × (all ≡ front ++ left) × Appends first old front
    → Appends old new [] → Began first new all
some_sent first old new all left x none =
    (x.0, (left, x.1), subst (λ (l : List ℕ). Appends first new l) (append-nil x.0) (appends_both first old new x.0 [] x.2 none))
