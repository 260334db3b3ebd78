-- A job over a desk that was opened over a keeper: what is answered of the set that the desk held is answered of what was kept before.
use Rattle.std.proofs.Common.{◌≡◌, ◌⊎◌, ◌∙◌, ℕ, ◌≤◌, List, [], ◌∷◌, ap, arith, get_or, length, map, subst, Option}
use Rattle.std.proofs.Common.{Some, None, Result, Ok, Err, IfErr, IfOk, inl, inr, codes, refl, string_bytes, sym}
use Rattle.std.proofs.lemmas.List.{append-nil}
use Rattle.std.specs.Io.KnownBytes.{Appends}
use Rattle.sudo_words.specs.declared.cmnd.Cmnd.{Cmnd}
use Rattle.sudo_policy.specs.declared.entry.Entry.{Entry}
use Rattle.messages.specs.declared.message.Message.{Message}
use Rattle.roster.specs.Fields.{RosterFields}
use Rattle.desk_store.specs.Keeping.{HasFailed}
use Rattle.desk_store.specs.Sets.{Lists, SameSet}
use Rattle.desk_store.proofs.ServingLemmas.{failed_later}
use Rattle.desk.specs.declared.refusal.Refusal.TheVariants as desk
use Rattle.desk_commands.specs.Delivering.{DeliversLines, EndsDelivering}
use Rattle.desk_commands.specs.Files.{EndsMaking, AreFilesOf}
use Rattle.desk_commands.specs.Kept.{AroundJob, held_in, kept}
use Rattle.desk_commands.specs.Printing.{EndsPrinting, HasManyLines, PrintsHost}
use Rattle.desk_commands.specs.Rebuilding.{EndsRebuilding}
use Rattle.desk_commands.specs.Reviewing.{EndsReviewing, ReviewsDesk}
use Rattle.desk_commands.specs.Taking.{HeldWith}
use Rattle.desk_commands.specs.declared.answer.Answer.{Answer}
use Rattle.desk_commands.specs.declared.refusal.JobRefusal.{JobRefusal}
use Rattle.desk_commands.specs.declared.refusal.JobRefusal.TheVariants as reasons
use Rattle.desk_commands.specs.private.Outcomes.{EndsFile, EndsReport, IsOutcome}
use Rattle.desk_args.specs.declared.status.ExitStatus.TheVariants.{Done}
use Rattle.desk_args.specs.declared.task.Job.TheVariants.{Deliver, Print, Rebuild, Review}
use Rattle.desk_args.specs.declared.task.Places.{Places}
use Rattle.desk_args.specs.declared.task.Store.{Store}

-- ---- sets that are the same

pub set_on : (S T U : Message → Type 0) → SameSet S T → SameSet T U → SameSet S U
set_on S T U first second = λ m. (λ s. (second m).0 ((first m).0 s), λ u. (first m).1 ((second m).1 u))

pub set_back : (S T : Message → Type 0) → SameSet S T → SameSet T S
set_back S T same = λ m. ((same m).1, (same m).0)

-- the list of one is the list of the other
pub listed : (S T : Message → Type 0) (messages : List Message) → SameSet S T → Lists S messages → Lists T messages
listed S T messages same lists = set_on T S _ (set_back S T same) lists

-- the same sets with more are the same
pub both_more : (S T More : Message → Type 0) → SameSet S T → SameSet (λ m. S m ⊎ More m) (λ m. T m ⊎ More m)
both_more S T More same = λ m. (
  λ s. elim s [ inl old ↦ inl ((same m).0 old) | inr more ↦ inr more ],
  λ t. elim t [ inl old ↦ inl ((same m).1 old) | inr more ↦ inr more ],
)

-- the same set with more is the same with more
pub with_more : (S T More new : Message → Type 0) → SameSet S T → SameSet (λ m. T m ⊎ More m) new → SameSet (λ m. S m ⊎ More m) new
with_more S T More new same held = set_on (λ m. S m ⊎ More m) (λ m. T m ⊎ More m) new (both_more S T More same) held

-- ---- what is answered of one set is answered of the same, and of what is known to be up

module _ (f : RosterFields Cmnd) (base : List Entry) (S T new : Message
    → Type 0) (Up Known : Type 0) (known : Up → Known) (same : Up → SameSet S T) (input : Option (List ℕ)) where
  lines_over : (relay : List ℕ) (a : Answer) (Since Failed : Type 0) → (Since → Failed)
      → DeliversLines f relay T new Known Since input a.status (string_bytes a.text)
      → DeliversLines f relay S new Up Failed input a.status (string_bytes a.text)
  lines_over relay a Since Failed counted is = record {
    lines = is.lines;
    answers = is.answers;
    lines_are = is.lines_are;
    answered = is.answered;
    held = λ up. with_more S T _ new (same up) (is.held (known up));
    cause = λ told. counted (is.cause told);
    status_is = is.status_is;
    text_is = is.text_is;
  }

  file_over : (store : Store) (host : List ℕ) (after : Option ℕ) (a : Answer) (said : List ℕ)
      → PrintsHost f base store host after T new Known input a.status (string_bytes a.text) said
      → PrintsHost f base store host after S new Up input a.status (string_bytes a.text) said
  file_over store host after a said is =
      let more : Up → SameSet (HeldWith f is.lines S) (HeldWith f is.lines T) = λ up. both_more S T _ (same up) in
      record {
        lines = is.lines;
        taken = is.taken;
        known = is.known;
        printed = λ up messages lists. is.printed (known up) messages (listed (HeldWith f is.lines S) (HeldWith f is.lines T) messages (more up) lists);
        rights = λ up messages lists. is.rights (known up) messages (listed (HeldWith f is.lines S) (HeldWith f is.lines T) messages (more up) lists);
        done = is.done;
        stays = λ up. set_on (HeldWith f is.lines S) (HeldWith f is.lines T) new (more up) (is.stays (known up));
      }

  report_over : (store : Store) (at : ℕ) (a : Answer) (said : List ℕ)
      → ReviewsDesk f base store at T new Known input a.status (string_bytes a.text) said
      → ReviewsDesk f base store at S new Up input a.status (string_bytes a.text) said
  report_over store at a said is =
      let more : Up → SameSet (HeldWith f is.lines S) (HeldWith f is.lines T) = λ up. both_more S T _ (same up) in
      record {
        lines = is.lines;
        taken = is.taken;
        reported = λ up messages lists. is.reported (known up) messages (listed (HeldWith f is.lines S) (HeldWith f is.lines T) messages (more up) lists);
        done = is.done;
        stays = λ up. set_on (HeldWith f is.lines S) (HeldWith f is.lines T) new (more up) (is.stays (known up));
      }

  many_over : (store : Store) (host : List ℕ) (after : Option ℕ) → HasManyLines f store host after T Up input → HasManyLines f store host after S Up input
  many_over store host after is = record {
    lines = is.lines;
    said = is.said;
    taken = is.taken;
    known = is.known;
    many = λ up messages printed lists. is.many up messages printed
        (listed (HeldWith f is.lines S) (HeldWith f is.lines T) messages (both_more S T _ (same up)) lists);
  }

-- ---- the first two files

-- what holds of the first two files holds of the list, however many more there are
pub of_two : {X : Type 0} (view : X → List ℕ) (xs : List X) (a b : X) (first second : List ℕ) (P : List (List ℕ) → Type 0) → 2 ≤ length xs
    → a ≡ get_or xs 0 a → b ≡ get_or xs 1 b → first ≡ view a → second ≡ view b → ((more : List (List ℕ)) → P (first ∷ second ∷ more)) → P (map view xs)
of_two view [] a b first second P long at_a at_b of_a of_b holds = absurd (omega (arith, long))
of_two view (p ∷ []) a b first second P long at_a at_b of_a of_b holds = absurd (omega (arith, long))
of_two view (p ∷ q ∷ rest) a b first second P long at_a at_b of_a of_b holds =
    subst (λ (x : List ℕ). P (x ∷ view q ∷ map view rest)) (of_a ∙ ap view at_a)
    (subst (λ (y : List ℕ). P (first ∷ y ∷ map view rest)) (of_b ∙ ap view at_b) (holds (map view rest)))

-- ---- nothing is said

pub nothing_said : (known : Option (List ℕ)) → Appends known known []
nothing_said None = tt
nothing_said (Some bytes) = sym (append-nil bytes)

-- ---- a desk that is opened over a keeper, asked, and given up again

module _ {K : Type 0} (is_up is_empty is_desk is_old : K → Type 0) (roster : K → List ℕ) (holds : K → Message → Type 0) (failures : K
    → ℕ) (before opened after : K) (roster_file base_file : List ℕ) (f : RosterFields Cmnd) (base : List Entry) (made : AreFilesOf roster_file base_file f base)
    (keeps : is_up after → is_desk after × (roster after ≡ roster_file)) (was_up : is_up after → is_up opened)
    (opens : is_up opened → SameSet (held_in (is_desk before) (is_old before) (holds before)) (holds opened))
    (counts : failures before ≤ failures opened) (more : List (List ℕ)) (input : Option (List ℕ)) where
  abbrev k : AroundJob
  k = kept is_up is_empty is_desk is_old roster holds failures before after

  before_is : is_up after → SameSet (held_in (is_desk before) (is_old before) (holds before)) (holds opened)
  before_is up = opens (was_up up)

  failed : HasFailed (failures opened) (failures after) → HasFailed (failures before) (failures after)
  failed since = failed_later (failures before) (failures opened) (failures after) counts since

  abbrev Old : Message → Type 0
  Old = held_in (is_desk before) (is_old before) (holds before)

  pub delivered : (places : Places) (relay : List ℕ) (r : Result Answer JobRefusal) (err : Option (List ℕ)) → IfOk r (λ a.
      DeliversLines f relay (holds opened) (holds after) (is_up after) (HasFailed (failures opened) (failures after)) input a.status (string_bytes a.text))
      → IfErr r (λ e. (e ≡ reasons.FileFailed) ⊎ (e ≡ reasons.NoMemory) ⊎ (e ≡ reasons.Desk desk.NoMemory))
      → IsOutcome (Deliver places relay) (roster_file ∷ base_file ∷ more) k input r err err
  delivered places relay (Ok a) err found cause = record {
    found = (
      [],
      (
        (
          f,
          base,
          made,
          keeps,
          lines_over f base Old (holds opened) (holds after) (is_up after) (is_up after) (λ up. up) before_is input relay a
              (HasFailed (failures opened) (failures after)) (HasFailed (failures before) (failures after)) failed found,
        ),
        refl,
      ),
      nothing_said err,
    );
    cause = tt;
  }
  delivered places relay (Err e) err found cause = record {
    found = tt;
    cause = elim cause [
      | inl read ↦ rw read tt
      | inr (inl memory) ↦ rw memory tt
      | inr (inr memory) ↦ rw memory tt
    ];
  }

  pub printed : (places : Places) (host : List ℕ) (moment : Option ℕ) (r : Result Answer JobRefusal) (err_before err_after : Option (List ℕ))
      → IfOk r (λ a. (said : List ℕ) × PrintsHost f base places.store host moment (holds opened) (holds after) (is_up after × is_desk after) input a.status
      (string_bytes a.text) said × Appends err_before err_after said)
      → IfErr r (EndsFile f places.store host moment (holds opened) (is_up after) (HasFailed (failures opened) (failures after)) input)
      → IsOutcome (Print places host moment) (roster_file ∷ base_file ∷ more) k input r err_before err_after
  printed places host moment (Ok a) err_before err_after found cause = record {
    found = (
      found.0,
      (
        f,
        base,
        made,
        keeps,
        file_over f base Old (holds opened) (holds after) (is_up after) (is_up after × is_desk after)
            (λ up. (up, (keeps up).0)) before_is input places.store host moment a
            found.0 found.1,
      ),
      found.2,
    );
    cause = tt;
  }
  printed places host moment (Err e) err_before err_after found cause = record { found = tt; cause = ends e cause }
    where
      ends : (e : JobRefusal) → EndsFile f places.store host moment (holds opened) (is_up after) (HasFailed (failures opened) (failures after)) input e
          → EndsPrinting roster_file base_file places.store host moment k input e
      ends reasons.FileFailed why = why
      ends reasons.BadWord why = absurd why
      ends reasons.NoMemory why = tt
      ends (reasons.Roster fault) why = absurd why
      ends (reasons.Policy fault) why = absurd why
      ends (reasons.Beyond fault) why = absurd why
      ends (reasons.Desk desk.UnknownHost) why = λ up. (f, base, made, why)
      ends (reasons.Desk desk.TooManyRules) why = λ up. (
        f,
        base,
        made,
        many_over f base Old (holds opened) (holds after) (is_up after) (is_up after) (λ up. up) before_is input places.store host moment why,
      )
      ends (reasons.Desk desk.NoMemory) why = tt
      ends (reasons.Desk desk.Storage) why = failed why
      ends (reasons.Desk desk.UnknownRelay) why = absurd why
      ends (reasons.Desk desk.TooLong) why = absurd why
      ends (reasons.Desk desk.NotCanonical) why = absurd why
      ends (reasons.Desk desk.BadField) why = absurd why
      ends (reasons.Desk (desk.Denied denial)) why = absurd why
      ends (reasons.Desk desk.RosterChanged) why = absurd why
      ends (reasons.Desk desk.NotADesk) why = absurd why
      ends (reasons.Desk desk.OldSchema) why = absurd why
      ends (reasons.Desk desk.BaseTooLarge) why = absurd why

  pub reviewed : (places : Places) (at : ℕ) (r : Result Answer JobRefusal) (err_before err_after : Option (List ℕ))
      → IfOk r (λ a. (said : List ℕ) × ReviewsDesk f base places.store at (holds opened) (holds after) (is_up after × is_desk after) input a.status
      (string_bytes a.text) said × Appends err_before err_after said)
      → IfErr r (EndsReport places.store (HasFailed (failures opened) (failures after)))
      → IsOutcome (Review places at) (roster_file ∷ base_file ∷ more) k input r err_before err_after
  reviewed places at (Ok a) err_before err_after found cause = record {
    found = (
      found.0,
      (
        f,
        base,
        made,
        keeps,
        report_over f base Old (holds opened) (holds after) (is_up after)
            (is_up after × is_desk after) (λ up. (up, (keeps up).0)) before_is input places.store at a
            found.0 found.1,
      ),
      found.2,
    );
    cause = tt;
  }
  reviewed places at (Err e) err_before err_after found cause = record { found = tt; cause = ends e cause }
    where
      ends : (e : JobRefusal) → EndsReport places.store (HasFailed (failures opened) (failures after)) e → EndsReviewing roster_file base_file places.store k e
      ends reasons.FileFailed why = why
      ends reasons.BadWord why = absurd why
      ends reasons.NoMemory why = tt
      ends (reasons.Roster fault) why = absurd why
      ends (reasons.Policy fault) why = absurd why
      ends (reasons.Beyond fault) why = absurd why
      ends (reasons.Desk desk.NoMemory) why = tt
      ends (reasons.Desk desk.Storage) why = failed why
      ends (reasons.Desk desk.UnknownHost) why = absurd why
      ends (reasons.Desk desk.TooManyRules) why = absurd why
      ends (reasons.Desk desk.UnknownRelay) why = absurd why
      ends (reasons.Desk desk.TooLong) why = absurd why
      ends (reasons.Desk desk.NotCanonical) why = absurd why
      ends (reasons.Desk desk.BadField) why = absurd why
      ends (reasons.Desk (desk.Denied denial)) why = absurd why
      ends (reasons.Desk desk.RosterChanged) why = absurd why
      ends (reasons.Desk desk.NotADesk) why = absurd why
      ends (reasons.Desk desk.OldSchema) why = absurd why
      ends (reasons.Desk desk.BaseTooLarge) why = absurd why

-- ---- a desk that is rebuilt over a keeper, and given up again

module _ {K : Type 0} (is_up is_empty is_desk is_old : K → Type 0) (roster : K → List ℕ) (holds : K → Message → Type 0) (failures : K
    → ℕ) (before after : K) (roster_file base_file : List ℕ) (f : RosterFields Cmnd) (base : List Entry) (made : AreFilesOf roster_file base_file f base)
    (keeps : is_up after → is_desk after × (roster after ≡ roster_file)) (held : is_up after
    → SameSet (held_in (is_desk before) (is_old before) (holds before)) (holds after)) (more : List (List ℕ)) (input : Option (List ℕ)) where
  pub rebuilt : (places : Places) (a : Answer) (err : Option (List ℕ)) → a.status ≡ Done → string_bytes a.text ≡ codes "ok\n"
      → IsOutcome (Rebuild places) (roster_file ∷ base_file ∷ more) (kept is_up is_empty is_desk is_old roster holds failures before after) input (Ok a) err err
  rebuilt places a err done told = record {
    found = ([], ((f, base, made, keeps, record { done = done; told = told; stays = held }), refl), nothing_said err);
    cause = tt;
  }

-- ---- no desk is opened

module _ (roster_file base_file : List ℕ) (k : AroundJob) (more : List (List ℕ)) (input err : Option (List ℕ)) (reason : JobRefusal) where
  no_desk_printed : (store : Store) (host : List ℕ) (moment : Option ℕ) (e : JobRefusal) → EndsMaking roster_file base_file k e
      → EndsPrinting roster_file base_file store host moment k input e
  no_desk_printed store host moment reasons.FileFailed why = absurd why
  no_desk_printed store host moment reasons.BadWord why = why
  no_desk_printed store host moment reasons.NoMemory why = why
  no_desk_printed store host moment (reasons.Roster fault) why = why
  no_desk_printed store host moment (reasons.Policy fault) why = why
  no_desk_printed store host moment (reasons.Beyond fault) why = why
  no_desk_printed store host moment (reasons.Desk desk.UnknownHost) why = λ up. absurd (why up)
  no_desk_printed store host moment (reasons.Desk desk.TooManyRules) why = λ up. absurd (why up)
  no_desk_printed store host moment (reasons.Desk desk.NoMemory) why = why
  no_desk_printed store host moment (reasons.Desk desk.Storage) why = why
  no_desk_printed store host moment (reasons.Desk desk.UnknownRelay) why = why
  no_desk_printed store host moment (reasons.Desk desk.TooLong) why = why
  no_desk_printed store host moment (reasons.Desk desk.NotCanonical) why = why
  no_desk_printed store host moment (reasons.Desk desk.BadField) why = why
  no_desk_printed store host moment (reasons.Desk (desk.Denied denial)) why = why
  no_desk_printed store host moment (reasons.Desk desk.RosterChanged) why = why
  no_desk_printed store host moment (reasons.Desk desk.NotADesk) why = why
  no_desk_printed store host moment (reasons.Desk desk.OldSchema) why = why
  no_desk_printed store host moment (reasons.Desk desk.BaseTooLarge) why = why

  no_desk_delivered : (e : JobRefusal) → EndsMaking roster_file base_file k e → EndsDelivering roster_file base_file k e
  no_desk_delivered reasons.FileFailed why = tt
  no_desk_delivered reasons.BadWord why = why
  no_desk_delivered reasons.NoMemory why = why
  no_desk_delivered (reasons.Roster fault) why = why
  no_desk_delivered (reasons.Policy fault) why = why
  no_desk_delivered (reasons.Beyond fault) why = why
  no_desk_delivered (reasons.Desk refusal) why = why

  no_desk_reviewed : (store : Store) (e : JobRefusal) → EndsMaking roster_file base_file k e → EndsReviewing roster_file base_file store k e
  no_desk_reviewed store reasons.FileFailed why = absurd why
  no_desk_reviewed store reasons.BadWord why = why
  no_desk_reviewed store reasons.NoMemory why = why
  no_desk_reviewed store (reasons.Roster fault) why = why
  no_desk_reviewed store (reasons.Policy fault) why = why
  no_desk_reviewed store (reasons.Beyond fault) why = why
  no_desk_reviewed store (reasons.Desk refusal) why = why

  pub undelivered : (places : Places) (relay : List ℕ) → EndsMaking roster_file base_file k reason
      → IsOutcome (Deliver places relay) (roster_file ∷ base_file ∷ more) k input (Err reason) err err
  undelivered places relay why = record { found = tt; cause = no_desk_delivered reason why }

  pub unprinted : (places : Places) (host : List ℕ) (moment : Option ℕ) → EndsMaking roster_file base_file k reason
      → IsOutcome (Print places host moment) (roster_file ∷ base_file ∷ more) k input (Err reason) err err
  unprinted places host moment why = record { found = tt; cause = no_desk_printed places.store host moment reason why }

  pub unreviewed : (places : Places) (at : ℕ) → EndsMaking roster_file base_file k reason
      → IsOutcome (Review places at) (roster_file ∷ base_file ∷ more) k input (Err reason) err err
  unreviewed places at why = record { found = tt; cause = no_desk_reviewed places.store reason why }

  pub unrebuilt : (places : Places) → EndsRebuilding roster_file base_file k reason
      → IsOutcome (Rebuild places) (roster_file ∷ base_file ∷ more) k input (Err reason) err err
  unrebuilt places why = record { found = tt; cause = why }
