-- The history of the site, as a response.
use Rattle.std.proofs.Common.{◌≡◌, ◌⊎◌, ℕ, List, [], ◌∷◌, Result, Ok, Err, String, ap, inl, inr}
use Rattle.std.specs.Prelude.{IfErr, IfOk, IsErrAnd, MatchResult, OnOk, string_bytes}
use Rattle.std.specs.declared.alloc.Global.{Global}
use Rattle.sudo_words.specs.declared.cmnd.Cmnd.{Cmnd}
use Rattle.sudo_policy.specs.declared.entry.Entry.{Entry}
use Rattle.roster.specs.Fields.{RosterFields}
use Rattle.store_schema.specs.Beside.{TableWithRows}
use Rattle.desk_store.specs.Left.{AddsOnly}
use Rattle.desk_store.specs.Serving.{IsServed}
use Rattle.desk_store.specs.declared.keeper.Keeper.{Ghosts}
use Rattle.desk_store.proofs.ServingLemmas.{served_as}
use Rattle.desk.specs.History.{IsHistory}
use Rattle.desk.specs.Refusals.{IsWant}
use Rattle.desk.specs.declared.refusal.Refusal.{Refusal}
use Rattle.desk.specs.declared.refusal.Refusal.TheVariants.{Storage, UnknownHost}
use Rattle.relay_http.specs.Request.{site_history}
use Rattle.relay_http.specs.Lasting.{Lasts}
use Rattle.relay_http.specs.Prepared.{to_told}
use Rattle.relay_http.specs.Responses.{IsHistoryResponse, IsServerFailure, Response, refusal, to_history}
use Rattle.relay_http.specs.declared.status.ResponseStatus.TheVariants as status
use Rattle.relay_http.proofs.AnswerLemmas.{is_storage, not_done, server_failure}

pub history_right : (roster : List ℕ) (base : List Entry) (history : List ℕ) (r : Result (String Global) Refusal)
    → IfOk r (λ s. string_bytes s ≡ history) → OnOk r (IsHistory roster base history) → IfErr r IsWant
    → IsHistoryResponse roster base history (to_told r) ⊎ IsServerFailure (to_told r)
history_right roster base history (Ok s) told ends err = inl (ends, ap to_history told)
history_right roster base history (Err e) told ends err = inr (server_failure e err)

-- ---- what storage did

not_storage : (history : List ℕ) (P : Type 0) → to_history history ≡ refusal Storage → P
not_storage [] P same =
    let wrong : status.NotFound ≡ status.ServiceUnavailable = ap (λ (r : Response). r.status) same in
    absurd cc
not_storage (code ∷ more) P same =
    let wrong : status.Done ≡ status.ServiceUnavailable = ap (λ (r : Response). r.status) same in
    absurd cc

told_cause : (r : Result (String Global) Refusal) → to_told r ≡ refusal Storage → r ≡ Err Storage
told_cause (Ok s) same = not_storage (string_bytes s) _ same
told_cause (Err e) same = ap (λ (x : Refusal). Err x) (is_storage e same)

told_want : (r : Result (String Global) Refusal) → IsErrAnd r IsWant → IsServerFailure (to_told r)
told_want (Ok s) none = absurd none
told_want (Err e) want = server_failure e want

pub history_served : {K : Type 0} {is_up is_clean : K → Type 0} {failures : K → ℕ} {beside : K → TableWithRows → Type 0} {a b : K}
    (r : Result (String Global) Refusal) → IsServed is_up is_clean failures beside a b (r ≡ Err Storage) (IsErrAnd r IsWant)
    → IsServed is_up is_clean failures beside a b (to_told r ≡ refusal Storage) (IsServerFailure (to_told r))
history_served r served = served_as (to_told r ≡ refusal Storage) (IsServerFailure (to_told r)) (told_cause r) (told_want r) served

-- ---- what it leaves

module _ {K : Type 0} (g : Ghosts K) (f : RosterFields Cmnd) (roster : List ℕ) (a b : K) where
  pub history_lasts : (r : Result (String Global) Refusal)
      → (g.is_clean b → MatchResult r (λ _. g.is_up b) (λ e. IsWant e ⊎ (e ≡ UnknownHost) ⊎ g.is_up b))
      → (g.is_clean b → AddsOnly (g.may_leave a) (g.may_leave b) (λ _. ⊥)) → Lasts g f roster a b site_history (to_told r)
  history_lasts (Ok s) live leaves = record { live = λ clean done. live clean; leaves = leaves }
  history_lasts (Err e) live leaves = record { live = λ clean done. not_done e (g.is_up b) done; leaves = leaves }
