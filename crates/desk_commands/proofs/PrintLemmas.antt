-- `print` and `review` over an open desk, from what their steps say.
use Rattle.std.proofs.Common.{◌≡◌, ◌⊎◌, ◌↔◌, ℕ, ◌<◌, ◌≤◌, Bool, true, false, List, Option, Result, Ok, Err, ap, arith, inl, inr, length, refl, subst, sym, ◌∙◌}
use Rattle.sudo_words.specs.declared.cmnd.Cmnd.{Cmnd}
use Rattle.sudo_policy.specs.declared.entry.Entry.{Entry}
use Rattle.messages.specs.declared.message.Message.{Message}
use Rattle.roster.specs.Fields.{RosterFields}
use Rattle.roster.specs.Rules.{is_among}
use Rattle.outcomes.specs.HostFile.{AreLines, Line}
use Rattle.desk_store.specs.Sets.{Lists, SameSet}
use Rattle.review.specs.Report.{IsReport}
use Rattle.desk.specs.Refusals.{IsWant}
use Rattle.desk.specs.declared.refusal.Refusal.{Refusal}
use Rattle.desk.specs.declared.refusal.Refusal.TheVariants as desk
use Rattle.desk_commands.specs.Printing.{HasRights, IsPrinted, PrintsHost, lines_printed}
use Rattle.desk_commands.specs.Reviewing.{ReviewsDesk}
use Rattle.desk_commands.specs.Taking.{HeldWith, Takes}
use Rattle.desk_commands.specs.declared.refusal.JobRefusal.TheVariants as reasons
use Rattle.desk_commands.specs.private.Outcomes.{EndsFile, EndsReport}
use Rattle.desk_commands.proofs.OverLemmas.{listed, set_on}
use Rattle.desk_args.specs.declared.status.ExitStatus.TheVariants.{Done}
use Rattle.desk_args.specs.declared.task.Store.{Store}

-- the host is known where its being unknown is not the answer
known_where : {P : Type 0} (known : Bool) → (P ↔ (known ≡ false)) → (P → ⊥) → known ≡ true
known_where true unknown other = refl
known_where false unknown other = absurd (other (unknown.1 refl))

module _ (f : RosterFields Cmnd) (base : List Entry) (store : Store) (input : Option (List ℕ)) (old mid new : Message → Type 0) (Known Up MidUp : Type 0)
    (lines : List (List ℕ)) (said : List ℕ) (taken : Takes store f input lines said) (held : MidUp → SameSet (HeldWith f lines old) mid) where
  -- the list of what is held, once lines are taken
  of_mid : MidUp → (messages : List Message) → Lists (HeldWith f lines old) messages → Lists mid messages
  of_mid up messages lists = listed (HeldWith f lines old) mid messages (held up) lists

  pub prints : {A : Type 0} (host : List ℕ) (after : Option ℕ) (result : Result A Refusal) (answer : A) (text : List ℕ)
      → (Known → Up) → (Up → MidUp) → result ≡ Ok answer → ((result ≡ Err desk.UnknownHost) ↔ (is_among f.hosts host ≡ false))
      → ((messages : List Message) → Up → Lists mid messages → IsPrinted f base messages host after text)
      → ((messages : List Message) → Up → Lists mid messages → HasRights f base messages host after text)
      → (Known → SameSet mid new) → PrintsHost f base store host after old new Known input Done text said
  prints host after result answer text up before ok unknown file rights stays = record {
    lines = lines;
    taken = taken;
    known = known_where (is_among f.hosts host) unknown (λ e. cc);
    printed = λ known messages lists. file messages (up known) (of_mid (before (up known)) messages lists);
    rights = λ known messages lists. rights messages (up known) (of_mid (before (up known)) messages lists);
    done = refl;
    stays = λ known. set_on (HeldWith f lines old) mid new (held (before (up known))) (stays known);
  }

  pub reviews : (at : ℕ) (text : List ℕ) → (Known → Up) → (Up → MidUp)
      → ((messages : List Message) → Up → Lists mid messages → IsReport f base messages at text)
      → (Known → SameSet mid new) → ReviewsDesk f base store at old new Known input Done text said
  reviews at text up before report stays = record {
    lines = lines;
    taken = taken;
    reported = λ known messages lists. report messages (up known) (of_mid (before (up known)) messages lists);
    done = refl;
    stays = λ known. set_on (HeldWith f lines old) mid new (held (before (up known))) (stays known);
  }

  past : (count : ℕ) → (count ≤ 8_192 → ⊥) → 8_192 < count
  past count few = omega (arith, few)

  pub ends_file : {A : Type 0} (host : List ℕ) (after : Option ℕ) (Failed : Type 0) (result : Result A Refusal) (refusal : Refusal) → (Up → MidUp)
      → result ≡ Err refusal → ((result ≡ Err desk.UnknownHost) ↔ (is_among f.hosts host ≡ false)) → ((messages : List Message) (printed : List Line) → Up
      → Lists mid messages → AreLines f messages host printed → length (lines_printed after printed) ≤ 8_192 → (refusal ≡ desk.UnknownHost) ⊎ IsWant refusal)
      → (refusal ≡ desk.UnknownHost) ⊎ (refusal ≡ desk.TooManyRules) ⊎ IsWant refusal → (refusal ≡ desk.Storage → Failed)
      → EndsFile f store host after old Up Failed input (reasons.Desk refusal)
  ends_file host after Failed result refusal before is unknown few why cause =
      let ends : Refusal → Type 0 = λ r. EndsFile f store host after old Up Failed input (reasons.Desk r) in
      elim why [
        | inl e ↦ subst ends (sym e) (unknown.0 (is ∙ ap Err e))
        | inr (inl e) ↦ subst ends (sym e) (record {
          lines = lines;
          said = said;
          taken = taken;
          known = known_where (is_among f.hosts host) unknown (λ u. cc);
          many = λ up messages printed lists are. past (length (lines_printed after printed)) (λ short.
              elim (few messages printed up (of_mid (before up) messages lists) are short) [
                | inl u ↦ cc
                | inr (inl memory) ↦ cc
                | inr (inr storage) ↦ cc
              ]);
        })
        | inr (inr (inl memory)) ↦ subst ends (sym memory) tt
        | inr (inr (inr storage)) ↦ subst ends (sym storage) (cause storage)
      ]

pub wants_end_report : (store : Store) (Failed : Type 0) (refusal : Refusal) → IsWant refusal
    → (refusal ≡ desk.Storage → Failed) → EndsReport store Failed (reasons.Desk refusal)
wants_end_report store Failed refusal want cause = elim want [
  | inl memory ↦ subst (λ (r : Refusal). EndsReport store Failed (reasons.Desk r)) (sym memory) tt
  | inr storage ↦ subst (λ (r : Refusal). EndsReport store Failed (reasons.Desk r)) (sym storage) (cause storage)
]
