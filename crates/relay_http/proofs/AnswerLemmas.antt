-- The desk's answers as responses.
use Rattle.std.proofs.Common.{◌≡◌, ◌⊎◌, ◌<◌, ◌≤◌, ◌&&◌, ◌==◌, ◌∙◌, ℕ, Bool, true, false, List, []}
use Rattle.std.proofs.Common.{◌∷◌, length, nat_le, Result, Ok, Err, String, sym, ap, refl, inl, inr}
use Rattle.std.proofs.lemmas.Bool.{cases_Bool, leb-true, leb-false}
use Rattle.std.specs.Prelude.{◌↔◌, ◌≢◌, IfOk, OnOk, IfErr, IsErrAnd, MatchResult, string_bytes}
use Rattle.std.specs.declared.alloc.Global.{Global}
use Rattle.sudo_words.specs.Word.{is_host_name}
use Rattle.sudo_words.specs.declared.cmnd.Cmnd.{Cmnd}
use Rattle.sudo_policy.specs.Printing.{canon}
use Rattle.sudo_policy.specs.declared.entry.Entry.{Entry}
use Rattle.messages.specs.declared.message.Message.{Message}
use Rattle.roster.specs.Fields.{RosterFields}
use Rattle.roster.specs.Rules.{is_among}
use Rattle.grants.specs.declared.denial.Denial.TheVariants as denials
use Rattle.outcomes.specs.HostFile.{Line, AreLines, IsHostFile, IsHostFileAfter, lines_after, with_lines}
use Rattle.store_schema.specs.Beside.{TableWithRows}
use Rattle.desk_store.specs.Left.{AddsOnly}
use Rattle.desk_store.specs.Serving.{IsServed}
use Rattle.desk_store.specs.declared.keeper.Keeper.{Ghosts}
use Rattle.desk_store.proofs.ServingLemmas.{served_as}
use Rattle.desk.specs.Refusals.{IsWant}
use Rattle.desk.specs.declared.ack.Ack.{Ack}
use Rattle.desk.specs.declared.refusal.Refusal.{Refusal}
use Rattle.desk.specs.declared.refusal.Refusal.TheVariants.{UnknownRelay, UnknownHost, TooLong, NotCanonical, BadField, Denied, TooManyRules}
use Rattle.desk.specs.declared.refusal.Refusal.TheVariants.{RosterChanged, NotADesk, OldSchema, Storage, NoMemory, BaseTooLarge}
use Rattle.relay_http.specs.Request.{Action, deliver}
use Rattle.relay_http.specs.Lasting.{IsAddedBy, Lasts}
use Rattle.relay_http.specs.Prepared.{to_question}
use Rattle.relay_http.specs.declared.status.ResponseStatus.TheVariants as status
use Rattle.relay_http.specs.Responses.{IsFileResponse, IsServerFailure, Response, done, is_known_host, refusal, to_delivery}

-- the two wants of a refusal, as responses
pub server_failure : (e : Refusal) → IsWant e → IsServerFailure (refusal e)
server_failure e (inl memory) = inl (ap refusal memory)
server_failure e (inr storage) = inr (ap refusal storage)

-- ---- only one response says that the storage failed

abbrev says_storage : List ℕ → Bool
says_storage [] = false
says_storage (a ∷ []) = false
says_storage (a ∷ b ∷ more) = (a == 75) && (b == 52)

other : (e : Refusal) → says_storage (refusal e).body ≡ false → refusal e ≡ refusal Storage → e ≡ Storage
other e differs same =
    let wrong : false ≡ true = sym differs ∙ ap (λ (r : Response). says_storage r.body) same in
    absurd cc

pub is_storage : (e : Refusal) → refusal e ≡ refusal Storage → e ≡ Storage
is_storage UnknownRelay same = other UnknownRelay refl same
is_storage UnknownHost same = other UnknownHost refl same
is_storage TooLong same = other TooLong refl same
is_storage NotCanonical same = other NotCanonical refl same
is_storage BadField same = other BadField refl same
is_storage TooManyRules same = other TooManyRules refl same
is_storage RosterChanged same = other RosterChanged refl same
is_storage NotADesk same = other NotADesk refl same
is_storage OldSchema same = other OldSchema refl same
is_storage NoMemory same = other NoMemory refl same
is_storage BaseTooLarge same = other BaseTooLarge refl same
is_storage (Denied denials.UnknownPerson) same = other (Denied denials.UnknownPerson) refl same
is_storage (Denied denials.UnknownCeiling) same = other (Denied denials.UnknownCeiling) refl same
is_storage (Denied denials.NotAsker) same = other (Denied denials.NotAsker) refl same
is_storage (Denied denials.HostOutside) same = other (Denied denials.HostOutside) refl same
is_storage (Denied denials.RunasOutside) same = other (Denied denials.RunasOutside) refl same
is_storage (Denied denials.CommandOutside) same = other (Denied denials.CommandOutside) refl same
is_storage (Denied denials.WindowTooLong) same = other (Denied denials.WindowTooLong) refl same
is_storage (Denied denials.WindowBackwards) same = other (Denied denials.WindowBackwards) refl same
is_storage Storage same = refl

-- no text is that response
text_cause : (r : Result (String Global) Refusal) → to_question r ≡ refusal Storage → r ≡ Err Storage
text_cause (Ok s) same =
    let wrong : status.Done ≡ status.ServiceUnavailable = ap (λ (r : Response). r.status) same in
    absurd cc
text_cause (Err e) same = ap (λ (x : Refusal). Err x) (is_storage e same)

-- nor one of a want
pub text_served : {K : Type 0} {is_up is_clean : K → Type 0} {failures : K → ℕ} {beside : K → TableWithRows
    → Type 0} {a b : K} (r : Result (String Global) Refusal) → IsServed is_up is_clean failures beside a b (r ≡ Err Storage) (IsErrAnd r IsWant)
    → IsServed is_up is_clean failures beside a b (to_question r ≡ refusal Storage) (IsServerFailure (to_question r))
text_served r served = served_as (to_question r ≡ refusal Storage) (IsServerFailure (to_question r)) (text_cause r) (text_want r) served
  where
    text_want : (r : Result (String Global) Refusal) → IsErrAnd r IsWant → IsServerFailure (to_question r)
    text_want (Ok s) none = absurd none
    text_want (Err e) want = server_failure e want

-- ---- a text that is told, as a report

pub told_right : (Is : List ℕ → Type 0) (r : Result (String Global) Refusal) → IfOk r (λ s. Is (string_bytes s)) → IfErr r IsWant
    → ((text : List ℕ) × Is text × (to_question r ≡ done text)) ⊎ IsServerFailure (to_question r)
told_right Is (Ok s) is err = inl (string_bytes s, is, refl)
told_right Is (Err e) is err = inr (server_failure e err)

-- ---- a host's file

known_is : (f : RosterFields Cmnd) (host : List ℕ) → is_host_name host ≡ true → is_known_host f host ≡ is_among f.hosts host
known_is f host name = ap (λ (b : Bool). b && is_among f.hosts host) name

abbrev Unknown : RosterFields Cmnd → (host : List ℕ) → Result (String Global) Refusal → Type 0
Unknown f host r = (r ≡ Err UnknownHost) ↔ (is_among f.hosts host ≡ false)

among : (f : RosterFields Cmnd) (host : List ℕ) (r : Result (String Global) Refusal) → (r ≢ Err UnknownHost) → Unknown f host r → is_among f.hosts host ≡ true
among f host r differs unknown =
    elim (cases_Bool (is_among f.hosts host)) as (λ _. is_among f.hosts host ≡ true) [ inl there ↦ there | inr lacking ↦ absurd (differs (unknown.1 lacking)) ]

module _ (left : List Line → List Line) (f : RosterFields Cmnd) (base : List Entry) (set : List Message) (host : List ℕ) where
  -- the text is the base with the lines that are left
  abbrev pub Left : (text : List ℕ) → Type 0
  Left text = (lines : List Line) × AreLines f set host lines × (text ≡ canon (with_lines base (left lines)))

  pub file_right : (r : Result (String Global) Refusal)
      → is_host_name host ≡ true
      → IfOk r (λ s. Left (string_bytes s))
      → ((ls : List Line) → AreLines f set host ls → length (left ls) ≤ 8_192 → IfErr r (λ e. (e ≡ UnknownHost) ⊎ IsWant e))
      → ((ls : List Line) → AreLines f set host ls → 8_192 < length (left ls) → MatchResult r (λ _. ⊥) (λ e. (e ≡ UnknownHost) ⊎ (e ≡ TooManyRules) ⊎ IsWant e))
      → Unknown f host r
      → IfErr r (λ e. (e ≡ UnknownHost) ⊎ (e ≡ TooManyRules) ⊎ IsWant e)
      → IsFileResponse left f base set host (to_question r) ⊎ IsServerFailure (to_question r)
  file_right (Ok s) name file few many unknown err =
      let there = among f host (Ok s) (λ e. cc) unknown in
      let short : length (left file.0) ≤ 8_192 = elim (cases_Bool (nat_le (length (left file.0)) 8_192)) as (λ _. length (left file.0) ≤ 8_192) [
        | inl le ↦ leb-true (length (left file.0)) 8_192 le
        | inr gt ↦ absurd (many file.0 file.1 (leb-false (length (left file.0)) 8_192 gt))
      ] in
      inl (inr (inl (known_is f host name ∙ there, (file.0, file.1, short, ap done file.2))))
  file_right (Err e) name file few many unknown (inl none) =
      inl (inl (known_is f host name ∙ unknown.0 (ap (λ (x : Refusal). Err x) none), ap refusal none))
  file_right (Err e) name file few many unknown (inr (inl past)) =
      let there = among f host (Err e) (λ same. let wrong : e ≡ UnknownHost = cc in absurd cc) unknown in
      let long : (ls : List Line) → AreLines f set host ls → 8_192 < length (left ls) = λ ls are.
      elim (cases_Bool (nat_le (length (left ls)) 8_192)) as (λ _. 8_192 < length (left ls)) [
        | inl le ↦ elim (few ls are (leb-true (length (left ls)) 8_192 le))
            as (λ _. 8_192 < length (left ls)) [ inl x ↦ absurd cc | inr (inl x) ↦ absurd cc | inr (inr x) ↦ absurd cc ]
        | inr gt ↦ leb-false (length (left ls)) 8_192 gt
      ] in
      inl (inr (inr (known_is f host name ∙ there, long, ap refusal past)))
  file_right (Err e) name file few many unknown (inr (inr want)) = inr (server_failure e want)

pub left_whole : (f : RosterFields Cmnd) (base : List Entry) (set : List Message) (host : List ℕ) (r : Result (String Global) Refusal)
    → IfOk r (λ s. IsHostFile f base set host (string_bytes s)) → IfOk r (λ s. Left (λ lines. lines) f base set host (string_bytes s))
left_whole f base set host (Ok s) file = (file.lines, file.lines_are, file.text_is)
left_whole f base set host (Err e) file = tt

pub left_after : (f : RosterFields Cmnd) (base : List Entry) (set : List Message) (host : List ℕ) (at : ℕ) (r : Result (String Global) Refusal)
    → IfOk r (λ s. IsHostFileAfter f base set host at (string_bytes s)) → IfOk r (λ s. Left (lines_after at) f base set host (string_bytes s))
left_after f base set host at (Ok s) file = (file.lines, file.lines_are, file.text_is)
left_after f base set host at (Err e) file = tt

-- ---- what a response leaves

-- a refusal is not told by the status 200
pub not_done : (e : Refusal) (P : Type 0) → (refusal e).status ≡ status.Done → P
not_done UnknownRelay P is = absurd cc
not_done UnknownHost P is = absurd cc
not_done TooLong P is = absurd cc
not_done NotCanonical P is = absurd cc
not_done BadField P is = absurd cc
not_done (Denied denial) P is = absurd cc
not_done TooManyRules P is = absurd cc
not_done RosterChanged P is = absurd cc
not_done NotADesk P is = absurd cc
not_done OldSchema P is = absurd cc
not_done Storage P is = absurd cc
not_done NoMemory P is = absurd cc
not_done BaseTooLarge P is = absurd cc

module _ {K : Type 0} (g : Ghosts K) (f : RosterFields Cmnd) (roster : List ℕ) (a b : K) where
  -- a question's response
  pub text_lasts : (action : Action ℕ) (r : Result (String Global) Refusal)
      → (g.is_clean b → MatchResult r (λ _. g.is_up b) (λ e. IsWant e ⊎ (e ≡ UnknownHost) ⊎ g.is_up b))
      → (g.is_clean b → AddsOnly (g.may_leave a) (g.may_leave b) (IsAddedBy (g.is_up a) f roster (g.holds a) action))
      → Lasts g f roster a b action (to_question r)
  text_lasts action (Ok s) live leaves = record { live = λ clean done. live clean; leaves = leaves }
  text_lasts action (Err e) live leaves = record { live = λ clean done. not_done e (g.is_up b) done; leaves = leaves }

  -- a delivery's response
  pub delivery_lasts : (relay body : List ℕ) (r : Result Ack Refusal) → (g.is_clean b → OnOk r (g.is_up b))
      → (g.is_clean b → AddsOnly (g.may_leave a) (g.may_leave b) (IsAddedBy (g.is_up a) f roster (g.holds a) (deliver relay body)))
      → Lasts g f roster a b (deliver relay body) (to_delivery r)
  delivery_lasts relay body (Ok ack) live leaves = record { live = λ clean done. live clean; leaves = leaves }
  delivery_lasts relay body (Err e) live leaves = record { live = λ clean done. not_done e (g.is_up b) done; leaves = leaves }

-- a refusal without a question to the keeper
pub refusal_lasts : {K : Type 0} (g : Ghosts K) (f : RosterFields Cmnd) (roster : List ℕ) (a : K) (action : Action ℕ) (e : Refusal)
    → Lasts g f roster a a action (refusal e)
refusal_lasts g f roster a action e = record { live = λ clean done. not_done e (g.is_up a) done; leaves = λ clean left may. inl may }
