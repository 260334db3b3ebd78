-- Bytes compared with a text, piece by piece.
use Rattle.std.proofs.Common.{◌≡◌, ◌≢◌, ℕ, ◌+◌, ◌-◌, ◌<◌, ◌≤◌, Bool, true, false, eqb, ◌||◌, List, [], ◌∷◌, ◌++◌, Option, Some, None, Bor, refl, sym}
use Rattle.std.proofs.Common.{ap, ◌∙◌, inl, inr, ap₂, append-nil, append_assoc, arith, decimal, subst, drop, get_or, length, map, take, take_all}
use Rattle.std.specs.Prelude.{◌↔◌, IsTrue, IsUtf8, MatchOption, codes}
use Rattle.std.specs.List.{flat_map}
use Rattle.std.proofs.lemmas.Bool.{cases_Bool}
use Rattle.std.proofs.lemmas.Grind.{flat_map-append}
use Rattle.std.proofs.lemmas.List.{append_cancel_left, length-append, take-append-drop, take_more}
use Rattle.std.proofs.lemmas.Str.{IsUtf8-from_ascii}
use Rattle.std.proofs.Math.Seq.{take-append_seam}
use Rattle.sudo_words.specs.Command.{arg_text, cmnd_text, escaped_byte, is_escaped, arg_rule_text, spaced_arg}
use Rattle.sudo_words.specs.Moment.{IsMoment, IsStamp, stamp}
use Rattle.sudo_words.specs.declared.cmnd.ArgRule.{ArgRule}
use Rattle.sudo_words.specs.declared.cmnd.Cmnd.{Cmnd}
use Rattle.sudo_words.specs.declared.cmnd.Cmnd.TheVariants as commands
use Rattle.sudo_words.proofs.MomentLemmas.{stamp_only, stamp_length}
use Rattle.messages.specs.Fields.{RequestFields, VerdictFields}
use Rattle.messages.specs.Wire.{escaped, kind_text, list_text, moment_text, quoted, request_text, rest_text, verdict_text}
use Rattle.messages.specs.private.Past.{IsPast, left_of}
use Rattle.messages.proofs.PlainTexts.{ascii_escaped, escaped_plain, moment_plain, printed_plain}

-- ---- pieces one after the other

pub past_none : {old : Option (Bor (List ℕ))} → IsPast [] old old
past_none = record { found = λ left e. e; only = λ left e. e }

pub past_both : {p q : List ℕ} {a b c : Option (Bor (List ℕ))} → IsPast p a b → IsPast q b c → IsPast (p ++ q) a c
past_both {p} {q} {a} {b} {c} first second =
    let parted : (left : List ℕ) → (p ++ q) ++ left ≡ p ++ (q ++ left) = λ left. simp append_assoc in
    record {
      found = λ left e. first.found (q ++ left) (second.found left e) ∙ ap Some (sym (parted left));
      only = λ left e. second.only left (first.only (q ++ left) (e ∙ ap Some (parted left)));
    }

pub past_same : {p q : List ℕ} {a b : Option (Bor (List ℕ))} → IsPast p a b → p ≡ q → IsPast q a b
past_same {p} {q} {a} {b} h same = rw (← same) h

-- ---- one piece

inside : (v w : List ℕ) → Some v ≡ Some w → v ≡ w
inside v w e = cc

-- the result of cutting off a prefix
pub past_front : {p : List ℕ} (s : Bor (List ℕ)) (r : Option (Bor (List ℕ)))
    → MatchOption r ((rest : List ℕ) → s.now ≢ p ++ rest) (λ x. s.now ≡ p ++ x.now) → IsPast p (Some s) r
past_front {p} s None differs = record { found = λ left e. absurd cc; only = λ left e. absurd (differs left (inside s.now (p ++ left) e)) }
past_front {p} s (Some x) same = record {
  found = λ left e. ap Some (same ∙ ap (λ (w : List ℕ). p ++ w) (inside x.now left e));
  only = λ left e. ap Some (append_cancel_left p x.now left (sym same ∙ inside s.now (p ++ left) e));
}

-- ---- escapes of a text are those of its parts

pub escaped_append : (v w : List ℕ) → escaped (v ++ w) ≡ escaped v ++ escaped w
unfolding escaped
escaped_append [] w = refl
escaped_append (b ∷ bs) w =
    elim (cases_Bool (eqb b 34 || eqb b 92)) [
      | inl marked ↦ rw marked (ap (λ (s : List ℕ). 92 ∷ b ∷ s) (escaped_append bs w))
      | inr kept ↦ rw kept (ap (λ (s : List ℕ). b ∷ s) (escaped_append bs w))
    ]

pub escaped_marked : (b : ℕ) → (eqb b 34 || eqb b 92) ≡ true → escaped (b ∷ []) ≡ (92 ∷ []) ++ (b ∷ [])
unfolding escaped
escaped_marked b h = rw h refl

pub escaped_kept : (b : ℕ) → (eqb b 34 || eqb b 92) ≡ false → escaped (b ∷ []) ≡ b ∷ []
unfolding escaped
escaped_kept b h = rw h refl

pub escaped_none : escaped [] ≡ []
unfolding escaped
escaped_none = refl

-- one more byte of a text
pub escaped_more : (w : List ℕ) (i : ℕ) → i < length w → escaped (take i w) ++ escaped (get_or w i 0 ∷ []) ≡ escaped (take (i + 1) w)
escaped_more w i less = rw (take_more w i 0 less) (sym (escaped_append (take i w) (get_or w i 0 ∷ [])))

-- ---- arguments

arg_append : (v w : List ℕ) → arg_text (v ++ w) ≡ arg_text v ++ arg_text w
arg_append v w = flat_map-append escaped_byte v w

arg_one : (b : ℕ) → arg_text (b ∷ []) ≡ escaped_byte b
arg_one b = append-nil (escaped_byte b)

pub arg_more : (w : List ℕ) (i : ℕ) → i < length w
    → escaped (arg_text (take i w)) ++ escaped (escaped_byte (get_or w i 0)) ≡ escaped (arg_text (take (i + 1) w))
arg_more w i less =
    rw (take_more w i 0 less, arg_append (take i w) (get_or w i 0 ∷ []), arg_one (get_or w i 0))
    (sym (escaped_append (arg_text (take i w)) (escaped_byte (get_or w i 0))))

pub args_more : (a : List ℕ) (more : List (List ℕ))
    → (codes " " ++ escaped (arg_text a)) ++ escaped (flat_map spaced_arg more) ≡ escaped (flat_map spaced_arg (a ∷ more))
unfolding escaped
args_more a more = sym (escaped_append (spaced_arg a) (flat_map spaced_arg more))

-- ---- lists

pub none_in : {X : Type 0} (xs : List X) → length xs < 1 → [] ≡ xs
none_in [] none = refl
none_in (x ∷ xs) none = absurd (omega arith)

pub first_in : {X : Type 0} (xs : List X) (x : X) → 1 ≤ length xs → x ≡ get_or xs 0 x → x ∷ take (length xs - 1) (drop 1 xs) ≡ xs
first_in [] x some is = absurd (omega arith)
first_in (y ∷ ys) x some is = let all : take (length (y ∷ ys) - 1) ys ≡ ys = take_all (length (y ∷ ys) - 1) ys (omega arith) in ap₂ (λ a b. a ∷ b) is all

pub rest_more : (w : List ℕ) (ws : List (List ℕ)) → (codes "," ++ quoted w) ++ rest_text ws ≡ rest_text (w ∷ ws)
unfolding rest_text
rest_more w ws = refl

pub list_more : (w : List ℕ) (ws : List (List ℕ)) → (codes "[" ++ quoted w) ++ rest_text ws ≡ list_text (w ∷ ws)
unfolding list_text
list_more w ws = refl

pub rest_none : codes "]" ≡ rest_text []
unfolding rest_text
rest_none = refl

pub list_none : codes "[]" ≡ list_text []
unfolding list_text
list_none = refl

-- ---- between quotes

pub quoted_is : (v w : List ℕ) → v ≡ w → (codes "\"" ++ escaped v) ++ codes "\"" ≡ quoted w
unfolding quoted
quoted_is v w same = ap (λ (s : List ℕ). 34 ∷ (escaped s ++ codes "\"")) same

pub behind_head : (head w : List ℕ) → ((head ++ codes "\"") ++ escaped w) ++ codes "\"" ≡ head ++ quoted w
unfolding quoted
behind_head head w = simp append_assoc

-- ---- moments

pub stamp_found : (text : List ℕ) (t : ℕ) → IsStamp text t → text ≡ moment_text t
unfolding moment_text
stamp_found text t h = stamp_only text t h

pub moment_length : (t : ℕ) → length (moment_text t) ≡ 15
unfolding moment_text
moment_length t = stamp_length t

pub empty_rule : codes " \\\"\\\"" ≡ escaped (codes " \"\"")
unfolding escaped
empty_rule = refl

-- the 15 bytes that are cut off, and what is left
pub stamp_cut : (s stamp left : List ℕ) (t : ℕ) → stamp ≡ take 15 s → left ≡ drop 15 s → stamp ≡ moment_text t → s ≡ moment_text t ++ left
stamp_cut s stamp left t front behind same = sym (take-append-drop 15 s) ∙ ap₂ (λ (a b : List ℕ). a ++ b) (sym front ∙ same) (sym behind)

pub stamp_here : (s stamp rest : List ℕ) (t : ℕ) → stamp ≡ take 15 s → s ≡ moment_text t ++ rest → stamp ≡ moment_text t
stamp_here s stamp rest t front e =
    front ∙ ap (take 15) e ∙ ap (λ (n : ℕ). take n (moment_text t ++ rest)) (sym (moment_length t)) ∙ take-append_seam (moment_text t) rest

pub stamp_missing : (s rest : List ℕ) (t : ℕ) → length s < 15 → s ≡ moment_text t ++ rest → ⊥
stamp_missing s rest t short e =
    let long : length s ≡ length (moment_text t) + length rest = ap length e ∙ length-append (moment_text t) rest in
    omega (arith, long, moment_length t)

pub stamp_utf8 : (t : ℕ) → IsMoment t → IsUtf8 (moment_text t)
stamp_utf8 t h =
    let plain = moment_plain t h in
    subst IsUtf8 (escaped_plain (moment_text t) plain)
    (IsUtf8-from_ascii (escaped (moment_text t)) (ascii_escaped (moment_text t) (printed_plain (moment_text t) plain)))

-- ---- commands

pub all_text : codes "ALL" ≡ escaped (cmnd_text commands.All)
unfolding escaped
all_text = refl

pub path_text : (w file : List ℕ) (rule : ArgRule) → w ≡ file → escaped w ++ escaped (arg_rule_text rule) ≡ escaped (cmnd_text (commands.Path file rule))
path_text w file rule same = rw same (sym (escaped_append file (arg_rule_text rule)))

-- ---- messages: comparing one member after another compares their texts appended

three : (h a i b j c : List ℕ) → ((h ++ a) ++ (i ++ b)) ++ (j ++ c) ≡ h ++ a ++ i ++ b ++ j ++ c
three h a i b j c = simp append_assoc

three_apart : (h a i b j c : List ℕ) → (((h ++ a) ++ (i ++ b)) ++ j) ++ c ≡ h ++ a ++ i ++ b ++ j ++ c
three_apart h a i b j c = simp append_assoc

four : (h a i b j c k d e : List ℕ) → ((((h ++ a) ++ (i ++ b)) ++ (j ++ c)) ++ (k ++ d)) ++ e ≡ h ++ a ++ i ++ b ++ j ++ c ++ k ++ d ++ e
four h a i b j c k d e = simp append_assoc

five : (h a i b j c k d l e f : List ℕ)
    → (((((h ++ a) ++ (i ++ b)) ++ (j ++ c)) ++ (k ++ d)) ++ (l ++ e)) ++ f ≡ h ++ a ++ i ++ b ++ j ++ c ++ k ++ d ++ l ++ e ++ f
five h a i b j c k d l e f = simp append_assoc

six : (w h a i b j c : List ℕ) → w ++ (h ++ a ++ i ++ b ++ j ++ c) ≡ w ++ h ++ a ++ i ++ b ++ j ++ c
six w h a i b j c = simp append_assoc

nine : (w h a i b j c k d e : List ℕ) → w ++ (h ++ a ++ i ++ b ++ j ++ c ++ k ++ d ++ e) ≡ w ++ h ++ a ++ i ++ b ++ j ++ c ++ k ++ d ++ e
nine w h a i b j c k d e = simp append_assoc

pub asked_parts : (r : RequestFields) (by ceiling : List ℕ) → by ≡ r.by → ceiling ≡ r.ceiling
    → ((codes "{\"at\":" ++ quoted (moment_text r.at)) ++ (codes ",\"by\":" ++ quoted by)) ++ (codes ",\"ceiling\":" ++ quoted ceiling)
    ≡ codes "{\"at\":" ++ quoted (moment_text r.at) ++ codes ",\"by\":" ++ quoted r.by ++ codes ",\"ceiling\":" ++ quoted r.ceiling
asked_parts r by ceiling e f =
    rw (e, f) (three (codes "{\"at\":") (quoted (moment_text r.at)) (codes ",\"by\":") (quoted r.by) (codes ",\"ceiling\":") (quoted r.ceiling))

pub lists_parts : (r : RequestFields) (cs : List Cmnd) (hs : List (List ℕ)) → cs ≡ r.cmnds → hs ≡ r.hosts
    → (((codes ",\"cmnds\":" ++ list_text (map cmnd_text cs)) ++ (codes ",\"from\":" ++ quoted (moment_text r.from))) ++ codes ",\"hosts\":") ++ list_text hs
    ≡ codes ",\"cmnds\":" ++ list_text (map cmnd_text r.cmnds) ++ codes ",\"from\":" ++ quoted (moment_text r.from) ++ codes ",\"hosts\":" ++ list_text r.hosts
lists_parts r cs hs e f = rw (e, f) (three_apart (codes ",\"cmnds\":") (list_text (map cmnd_text r.cmnds))
    (codes ",\"from\":") (quoted (moment_text r.from)) (codes ",\"hosts\":") (list_text r.hosts))

pub last_parts : (r : RequestFields) (runas : List ℕ) → runas ≡ r.runas
    → ((((codes ",\"kind\":" ++ quoted (codes "request")) ++ (codes ",\"no\":" ++ decimal r.no)) ++ (codes ",\"runas\":" ++ quoted runas))
    ++ (codes ",\"until\":" ++ quoted (moment_text r.until))) ++ codes "}" ≡ codes ",\"kind\":" ++ quoted (codes "request") ++ codes ",\"no\":"
    ++ decimal r.no ++ codes ",\"runas\":" ++ quoted r.runas ++ codes ",\"until\":" ++ quoted (moment_text r.until) ++ codes "}"
last_parts r runas e = rw e (four (codes ",\"kind\":") (quoted (codes "request")) (codes ",\"no\":") (decimal r.no)
    (codes ",\"runas\":") (quoted r.runas) (codes ",\"until\":") (quoted (moment_text r.until)) (codes "}"))

pub request_whole : (r : RequestFields)
    → ((codes "{\"at\":" ++ quoted (moment_text r.at) ++ codes ",\"by\":" ++ quoted r.by ++ codes ",\"ceiling\":" ++ quoted r.ceiling) ++ (codes ",\"cmnds\":"
    ++ list_text (map cmnd_text r.cmnds) ++ codes ",\"from\":" ++ quoted (moment_text r.from) ++ codes ",\"hosts\":" ++ list_text r.hosts))
    ++ (codes ",\"kind\":" ++ quoted (codes "request") ++ codes ",\"no\":" ++ decimal r.no ++ codes ",\"runas\":"
    ++ quoted r.runas ++ codes ",\"until\":" ++ quoted (moment_text r.until) ++ codes "}") ≡ request_text r
request_whole r =
    let last = codes ",\"kind\":" ++ quoted (codes "request") ++ codes ",\"no\":" ++ decimal r.no
    ++ codes ",\"runas\":" ++ quoted r.runas ++ codes ",\"until\":" ++ quoted (moment_text r.until) ++ codes "}" in
    let asked = codes "{\"at\":" ++ quoted (moment_text r.at) ++ codes ",\"by\":" ++ quoted r.by ++ codes ",\"ceiling\":" ++ quoted r.ceiling in
    let front = asked ++ codes ",\"cmnds\":" ++ list_text (map cmnd_text r.cmnds) ++ codes ",\"from\":"
    ++ quoted (moment_text r.from) ++ codes ",\"hosts\":" ++ list_text r.hosts in
    ap (λ (w : List ℕ). w ++ last) (six asked (codes ",\"cmnds\":") (list_text (map cmnd_text r.cmnds)) (codes ",\"from\":")
    (quoted (moment_text r.from)) (codes ",\"hosts\":") (list_text r.hosts)) ∙ nine front (codes ",\"kind\":") (quoted (codes "request"))
    (codes ",\"no\":") (decimal r.no) (codes ",\"runas\":") (quoted r.runas) (codes ",\"until\":") (quoted (moment_text r.until)) (codes "}")

pub verdict_parts : (v : VerdictFields) (by kind of : List ℕ) → by ≡ v.by → kind ≡ kind_text v.kind → of ≡ v.of
    → (((((codes "{\"at\":" ++ quoted (moment_text v.at)) ++ (codes ",\"by\":" ++ quoted by)) ++ (codes ",\"kind\":" ++ quoted kind))
    ++ (codes ",\"no\":" ++ decimal v.no)) ++ (codes ",\"of\":" ++ quoted of)) ++ codes "}" ≡ verdict_text v
verdict_parts v by kind of e f g = rw (e, f, g) (five (codes "{\"at\":") (quoted (moment_text v.at)) (codes ",\"by\":") (quoted v.by)
    (codes ",\"kind\":") (quoted (kind_text v.kind)) (codes ",\"no\":") (decimal v.no) (codes ",\"of\":") (quoted v.of) (codes "}"))

-- the whole was compared
pub whole : {p : List ℕ} (body : Bor (List ℕ)) (left : Option (Bor (List ℕ))) (r : Bool)
    → IsPast p (Some body) left → (IsTrue r ↔ (left_of left ≡ Some [])) → IsTrue r ↔ (body.now ≡ p)
whole {p} body left r past end =
    (λ e. inside body.now (p ++ []) (past.found [] (end.0 e)) ∙ append-nil p, λ same. end.1 (past.only [] (ap Some (same ∙ sym (append-nil p)))))

-- an argument's backslash, and the byte after it
pub arg_marked : (b : ℕ) → is_escaped b ≡ true → escaped (92 ∷ []) ++ escaped (b ∷ []) ≡ escaped (escaped_byte b)
arg_marked b h = rw h (sym (escaped_append (92 ∷ []) (b ∷ [])))
