use Rattle.std.proofs.Common.{◌≡◌, ◌⊎◌, ℕ, ◌+◌, ◌∙◌, inl, inr, List, [], ◌∷◌, ◌++◌, map, take, take_all}
use Rattle.std.proofs.Common.{Result, Err, Global, Vec, sym, ap, subst, refl, arith, rules}
use Rattle.std.specs.Prelude.{String}
use Rattle.std.specs.List.{Contains}
use Rattle.std.proofs.lemmas.List.{map_push}
use Rattle.std.proofs.lemmas.List.Elements.{Contains-push_cases}
use Rattle.sudo_decide.proofs.AnswerLemmas.{take_one_more}
use Rattle.roster.specs.Fields.{Reading}
use Rattle.messages.specs.declared.message.Message.{Message}
use Rattle.desk_store.specs.Left.{AddsOnly, IsDeskOf, LeavesOnly}
use Rattle.desk_store.specs.Serving.{IsServed}
use Rattle.desk.specs.Crash.{IsAddedByDelivery, IsLeftByDeliveries}
use Rattle.desk_store.proofs.ServingLemmas.{served_as, served_both, served_by_none}
use Rattle.desk.specs.declared.ack.Ack.{Ack}
use Rattle.desk.specs.declared.refusal.Refusal.{Refusal}
use Rattle.desk.specs.declared.refusal.Refusal.TheVariants.{Storage}
use Rattle.desk.specs.Delivery.{AcknowledgesAmong, AreAnswers, Delivery, HaveFailed, HeldAfterAll}
use Rattle.desk.specs.Delivery.{IsDeliveryAnswer, WasWantingAmong, delivery_of, storage_failures}
use Rattle.desk.proofs.DeliveryLemmas.{answers_push, held_by_none, held_push}
use Rattle.desk.proofs.LeftLemmas.{crash_push, leaves_push, left_by_none, live_push, repeated_push, settings_both}
use Rattle.desk.proofs.FailureLemmas.{failures_push, have_failed_push, wanting_before, wanting_now}
use Rattle.desk.proofs.desk.Desk.deliver_each.Goals as goal

pub loop-relay-init : goal.loop-relay-init
loop-relay-init g c =
    let K = g.K.Keeper in
    let keeper = c.args.self.now.keeper in
    let P : List (Result Ack Refusal) → Type 0 = λ answers. AreAnswers c.args.self.now.roster.says [] answers in
    let Q : List (Result Ack Refusal) → Type 0 = λ answers. HeldAfterAll (K.holds keeper) [] answers (K.holds keeper) in
    let R : List (Result Ack Refusal) → Type 0 = λ answers. Contains answers (Err Storage) in
    let F : List (Result Ack Refusal) → Type 0 = λ answers. HaveFailed (storage_failures answers) (K.failures keeper) (K.failures keeper) in
    let none = c.requires.none in
    record {
      answered = subst P (sym none) tt;
      held = λ up. subst Q (sym none) (held_by_none (K.holds keeper));
      settings = record { roster = refl; base = refl; history = refl };
      served = served_by_none keeper (R c.args.answers.now.items) (WasWantingAmong c.args.answers.now.items) (λ failed. let there = subst R none failed in
          omega (arith, there.1));
      causes = subst F (sym none) (inl (omega arith));
      repeated = λ up acked. g.met.K.Keeper.same_itself keeper;
      live = λ clean m acked. absurd acked;
      crash = λ up clean left may.
          left_by_none c.args.self.now.roster.says c.args.self.now.roster.text (K.holds keeper) c.args.answers.now.items left (c.lasts.ensures up left may);
      leaves = λ clean left may. inl may;
      count = search rules;
      room = c.requires.room;
    }

pub push_reserved-requires : goal.push_reserved-requires
push_reserved-requires g c = omega (arith, c.loop-relay-test.true, c.loop-relay.invariant.count, c.loop-relay.invariant.room)

pub loop-relay-preserved : goal.loop-relay-preserved
loop-relay-preserved g c =
    let K = g.K.Keeper in
    let old = c.args.self.now in
    let mid = c.loop-relay.self in
    let new = c.deliver-answer.new.self in
    let list = c.args.list.now in
    let i = c.loop-relay.relay-index in
    let item = c.loop-relay-item.result in
    let before = map delivery_of (take i list) in
    let kept = c.loop-relay.invariant in
    let done = c.deliver-answer.ensures in
    let d : Delivery = record { relay = c.as_str.result.now; body = c.as_slice.result.now } in
    let same : delivery_of item ≡ d = λ j. record { relay = sym c.as_str.ensures.value j; body = sym c.as_slice.ensures.value j } in
    let more : map delivery_of (take (i + 1) list) ≡ before ++ d ∷ [] =
    ap (λ xs. map delivery_of xs) (take_one_more list i item c.loop-relay-test.true c.loop-relay-item.is)
    ∙ map_push delivery_of (take i list) item
    ∙ ap (λ (x : Delivery). before ++ x ∷ []) same in
    let result = c.deliver-answer.result in
    let answers = c.loop-relay.answers.items in
    let F : Reading → Type 0 = λ r. IsDeliveryAnswer r.says d result in
    let answer : IsDeliveryAnswer old.roster.says d result = subst F kept.settings.roster done.answer in
    let P : List Delivery → Type 0 = λ ds. AreAnswers old.roster.says ds (answers ++ result ∷ []) in
    let P' : List (Result Ack Refusal) → Type 0 = λ as'. AreAnswers old.roster.says (map delivery_of (take (i + 1) list)) as' in
    let Q : List Delivery → Type 0 = λ ds. HeldAfterAll (K.holds old.keeper) ds (answers ++ result ∷ []) (K.holds new.keeper) in
    let Q' : List (Result Ack Refusal) → Type 0 = λ as'. HeldAfterAll (K.holds old.keeper) (map delivery_of (take (i + 1) list)) as' (K.holds new.keeper) in
    let U : List (Result Ack Refusal) → Type 0 =
    λ as'. IsServed K.is_up K.is_clean K.failures K.beside old.keeper new.keeper (Contains as' (Err Storage)) (WasWantingAmong as') in
    let H : List (Result Ack Refusal) → Type 0 = λ as'. HaveFailed (storage_failures as') (K.failures old.keeper) (K.failures new.keeper) in
    let says = old.roster.says in
    let text = old.roster.text in
    let S = K.holds old.keeper in
    let T = K.holds mid.keeper in
    let Z = K.holds new.keeper in
    let items : c.push_reserved.new.self.items ≡ answers ++ result ∷ [] = c.push_reserved.ensures.items in
    let after : K.is_up new.keeper → HeldAfterAll S (before ++ d ∷ []) (answers ++ result ∷ []) Z = λ up.
    held_push says S T Z before answers d result kept.answered (kept.held (done.served.was_up up)) (done.held up) in
    let A : Reading → Type 0 = λ r. K.is_clean new.keeper
    → AddsOnly (K.may_leave mid.keeper) (K.may_leave new.keeper) (IsAddedByDelivery (K.is_up mid.keeper) r.says r.text T d) in
    let adds : A old.roster = subst A kept.settings.roster done.leaves in
    let D : Reading → Type 0 = λ r. K.is_up new.keeper → LeavesOnly (K.may_leave new.keeper) (IsDeskOf r.text Z) in
    let durable : D old.roster = subst D (done.settings.roster ∙ kept.settings.roster) done.durable in
    let Rep : List Delivery → List (Result Ack Refusal) → Type 0 = λ ds as'. K.is_up new.keeper
    → ((m : Message) → AcknowledgesAmong ds as' m → S m) → K.is_same old.keeper new.keeper in
    let Live : List Delivery → List (Result Ack Refusal) → Type 0 = λ ds as'. K.is_clean new.keeper
    → (m : Message) → AcknowledgesAmong ds as' m → WasWantingAmong as' ⊎ K.is_up new.keeper in
    let Crash : List Delivery → List (Result Ack Refusal) → Type 0 = λ ds as'. K.is_up old.keeper → K.is_clean new.keeper
    → LeavesOnly (K.may_leave new.keeper) (IsLeftByDeliveries says text S ds as') in
    let Leaves : List Delivery → List (Result Ack Refusal) → Type 0 = λ ds as'. K.is_clean new.keeper
    → AddsOnly (K.may_leave old.keeper) (K.may_leave new.keeper) (λ left. K.is_up old.keeper × IsLeftByDeliveries says text S ds as' left) in
    let moved : (Z : List Delivery → List (Result Ack Refusal) → Type 0) → Z (before ++ d ∷ []) (answers ++ result ∷ [])
    → Z (map delivery_of (take (i + 1) list)) c.push_reserved.new.self.items = λ Z it.
    subst (λ as'. Z (map delivery_of (take (i + 1) list)) as') (sym {A = List (Result Ack Refusal)} items)
    (subst (λ ds. Z ds (answers ++ result ∷ [])) (sym {A = List Delivery} more) it) in
    let N : ℕ → Type 0 = λ n. HaveFailed n (K.failures old.keeper) (K.failures new.keeper) in
    record {
      answered = subst P' (sym {A = List (Result Ack Refusal)} c.push_reserved.ensures.items)
          (subst P (sym {A = List Delivery} more) (answers_push old.roster.says before answers d result kept.answered answer));
      held = λ up. subst Q' (sym {A = List (Result Ack Refusal)} c.push_reserved.ensures.items)
          (subst Q (sym {A = List Delivery} more) (held_push old.roster.says (K.holds old.keeper) (K.holds mid.keeper)
          (K.holds new.keeper) before answers d result kept.answered (kept.held (done.served.was_up up)) (done.held up)));
      settings = settings_both old mid new kept.settings done.settings;
      served = subst U (sym {A = List (Result Ack Refusal)} c.push_reserved.ensures.items) (served_as (Contains (answers ++ result ∷ []) (Err Storage))
          (WasWantingAmong (answers ++ result ∷ [])) (λ failed. Contains-push_cases answers result (Err Storage) failed) (λ want. elim want
          as (λ _. WasWantingAmong (answers ++ result ∷ [])) [ inl sooner ↦ wanting_before answers result sooner | inr now ↦ wanting_now answers result now ])
          (served_both kept.served done.served));
      causes = subst H (sym {A = List (Result Ack Refusal)} c.push_reserved.ensures.items)
          (subst N (sym (failures_push answers result)) (have_failed_push (storage_failures answers) (K.failures old.keeper)
          (K.failures mid.keeper) (K.failures new.keeper) result kept.causes done.served.counts done.served.cause));
      repeated = moved Rep (λ up acked. repeated_push says text S before answers d kept.answered (K.is_same old.keeper mid.keeper)
          (K.is_same mid.keeper new.keeper) (K.is_same old.keeper new.keeper) (λ first second. g.met.K.Keeper.same_on old.keeper mid.keeper new.keeper first
          second) T result answer (kept.held (done.served.was_up up)) (kept.repeated (done.served.was_up up)) (done.repeated up) (done.unchanged up) acked);
      live = moved Live (λ clean. live_push says text S before answers d kept.answered (K.is_up mid.keeper) (K.is_up new.keeper) result
          (kept.live (done.served.was_clean clean)) (λ up. done.served.up up clean) (done.live clean));
      crash = moved Crash (λ up clean. crash_push says text S before answers d kept.answered T Z (K.may_leave mid.keeper) (K.may_leave mid.keeper)
          (K.may_leave new.keeper) (K.is_up old.keeper) (K.is_up mid.keeper) (K.is_up new.keeper) kept.held (adds clean) durable result
          (done.live clean) after (kept.crash up (done.served.was_clean clean)));
      leaves = moved Leaves (λ clean. leaves_push says text S before answers d kept.answered T Z (K.may_leave old.keeper) (K.may_leave mid.keeper)
          (K.may_leave new.keeper) (K.is_up old.keeper) (K.is_up mid.keeper) (K.is_up new.keeper) kept.held (adds clean) durable result
          (done.live clean) after kept.served.was_up (λ up. kept.served.was_up (done.served.was_up up)) (kept.leaves (done.served.was_clean clean)));
      count = omega (arith, c.push_reserved.ensures.len, kept.count);
      room = omega (arith, c.push_reserved.ensures.capacity, kept.room);
    }

-- ---- once all are delivered

pub returns-clause-crash : goal.returns-clause-crash
returns-clause-crash g c =
    let K = g.K.Keeper in
    let old = c.args.self.now in
    let P : List (String Global × Vec ℕ Global) → Type 0 = λ l. K.is_up old.keeper → K.is_clean c.loop-relay.self.keeper
    → LeavesOnly (K.may_leave c.loop-relay.self.keeper)
    (IsLeftByDeliveries old.roster.says old.roster.text (K.holds old.keeper) (map delivery_of l) c.loop-relay.answers.items) in
    subst P (take_all c.loop-relay.relay-index c.args.list.now c.loop-relay-test.false) c.loop-relay.invariant.crash

pub returns-clause-leaves : goal.returns-clause-leaves
returns-clause-leaves g c =
    let K = g.K.Keeper in
    let old = c.args.self.now in
    let P : List (String Global × Vec ℕ Global) → Type 0 = λ l. K.is_clean c.loop-relay.self.keeper
    → AddsOnly (K.may_leave old.keeper) (K.may_leave c.loop-relay.self.keeper) (λ left. K.is_up old.keeper
    × IsLeftByDeliveries old.roster.says old.roster.text (K.holds old.keeper) (map delivery_of l) c.loop-relay.answers.items left) in
    subst P (take_all c.loop-relay.relay-index c.args.list.now c.loop-relay-test.false) c.loop-relay.invariant.leaves
