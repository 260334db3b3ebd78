-- The messages of lines that were delivered, where neither memory nor the storage was wanting.
use Rattle.std.proofs.Common.{Option, ap, ◌≡◌, ◌⊎◌, ℕ, zero, suc, ◌<◌, true, List, [], ◌∷◌, ◌∙◌}
use Rattle.std.proofs.Common.{Result, Ok, Err, IsOk, arith, get_or, inl, inr, length, refl, subst, sym}
use Rattle.std.specs.List.{AllZip, Contains}
use Rattle.sudo_words.specs.declared.cmnd.Cmnd.{Cmnd}
use Rattle.messages.specs.Wire.{IsMessage, wire}
use Rattle.messages.specs.declared.message.Message.{Message}
use Rattle.messages.proofs.Uniqueness.{one_message}
use Rattle.roster.specs.Fields.{RosterFields}
use Rattle.roster.specs.Relations.{IsFirst}
use Rattle.roster.specs.Rules.{is_among}
use Rattle.grants.specs.Admission.{Admits}
use Rattle.desk_store.specs.Sets.{Lists, SameSet}
use Rattle.desk.specs.Delivery.{Acknowledges, AcknowledgesAmong, Answers, AreAnswers, Delivery, HeldAfterAll, IsDeliveryAnswer, IsBodyOf, WasWanting}
use Rattle.desk.specs.declared.ack.Ack.{Ack}
use Rattle.desk.specs.declared.refusal.Refusal.{Refusal}
use Rattle.desk_commands.specs.Lines.{AreBrought, AreRead, IsBrought, from_relay}
use Rattle.desk_commands.specs.Taking.{AreTaken, HadMemory, HeldWith, complaints}

module _ (f : RosterFields Cmnd) where
  pub right_answer : (d : Delivery) (answer : Result Ack Refusal) → IsDeliveryAnswer f d answer → (WasWanting answer → ⊥) → Answers f d answer
  right_answer d answer is had = elim is.sound [ inl wanting ↦ absurd (had wanting) | inr right ↦ right ]

  pub right_answers : (ds : List Delivery) (answers : List (Result Ack Refusal)) → AllZip (IsDeliveryAnswer f) ds answers → HadMemory answers
      → AllZip (Answers f) ds answers
  right_answers [] [] are had = tt
  right_answers [] (answer ∷ answers) are had = absurd are
  right_answers (d ∷ ds) [] are had = absurd are
  right_answers (d ∷ ds) (answer ∷ answers) are had = (right_answer d answer are.0 had.0, right_answers ds answers are.1 had.1)

  -- what an acknowledgement says
  acknowledged : (d : Delivery) (ack : Ack) → Answers f d (Ok ack) → (m : Message) × IsBodyOf d.body m × Admits f m
  acknowledged d ack right = elim right [ inl other ↦ absurd cc | inr known ↦ known.1 ]

  -- ---- lists of messages

  first_of : {X : Type 0} (x : X) (xs : List X) → Contains (x ∷ xs) x
  first_of x xs = (0, omega arith, refl)

  later : {X : Type 0} (x : X) (xs : List X) (other : X) → Contains xs other → Contains (x ∷ xs) other
  later x xs other among = (suc among.0, omega (arith, among.1), among.2)

  nothing_in : {X : Type 0} (x : X) → Contains [] x → ⊥
  nothing_in x among = omega (arith, among.1)

  in_cons : {X : Type 0} (x : X) (xs : List X) (other : X) (k : ℕ) → k < length (x ∷ xs) → get_or (x ∷ xs) k other ≡ other
      → (x ≡ other) ⊎ Contains xs other
  in_cons x xs other zero lt is = inl is
  in_cons x xs other (suc k) lt is = inr (k, omega (arith, lt), is)

  -- ---- a list of exactly what is acknowledged

  only_one : (d : Delivery) (m n : Message) → IsBodyOf d.body m → IsMessage n → d.body ≡ wire n → m ≡ n
  only_one d m n body known text = one_message m n body.message known (sym body.text ∙ text)

  with_first : (d : Delivery) (ds : List Delivery) (ack : Ack) (answers : List (Result Ack Refusal)) (m : Message) (messages : List Message)
      → IsBodyOf d.body m → Lists (AcknowledgesAmong ds answers) messages → Lists (AcknowledgesAmong (d ∷ ds) (Ok ack ∷ answers)) (m ∷ messages)
  with_first d ds ack answers m messages body rest = λ n. (
    λ acked. elim acked [
      | inl this ↦ (let same : m ≡ n = only_one d m n body this.0 this.1 in subst (λ (o : Message). Contains (m ∷ messages) o) same (first_of m messages))
      | inr more ↦ later m messages n ((rest n).0 more)
    ],
    λ among. elim (in_cons m messages n among.0 among.1 among.2) [
      | inl same ↦ inl (subst IsMessage same body.message, subst (λ (o : Message). d.body ≡ wire o) same body.text, refl)
      | inr more ↦ inr ((rest n).1 more)
    ],
  )

  without_first : (d : Delivery) (ds : List Delivery) (refusal : Refusal) (answers : List (Result Ack Refusal)) (messages : List Message)
      → Lists (AcknowledgesAmong ds answers) messages → Lists (AcknowledgesAmong (d ∷ ds) (Err refusal ∷ answers)) messages
  without_first d ds refusal answers messages rest = λ n. (
    λ acked. elim acked [ inl this ↦ absurd cc | inr more ↦ (rest n).0 more ],
    λ among. inr ((rest n).1 among),
  )

  listed : (ds : List Delivery) (answers : List (Result Ack Refusal)) → AllZip (Answers f) ds answers
      → (messages : List Message) × Lists (AcknowledgesAmong ds answers) messages
  listed [] [] right = ([], λ n. (λ acked. absurd acked, λ among. absurd (nothing_in n among)))
  listed [] (answer ∷ answers) right = absurd right
  listed (d ∷ ds) [] right = absurd right
  listed (d ∷ ds) (Ok ack ∷ answers) right =
      let m = acknowledged d ack right.0 in
      let rest = listed ds answers right.1 in
      (m.0 ∷ rest.0, with_first d ds ack answers m.0 rest.0 m.1 rest.1)
  listed (d ∷ ds) (Err refusal ∷ answers) right =
      let rest = listed ds answers right.1 in
      (rest.0, without_first d ds refusal answers rest.0 rest.1)

  -- ---- what is acknowledged is brought, and what is brought is acknowledged

  pub here : (line : List ℕ) (lines : List (List ℕ)) (m : Message) → IsBodyOf line m → Admits f m → IsBrought f (line ∷ lines) m
  here line lines m body admitted = record { line = line; among = first_of line lines; body = body; admitted = admitted }

  pub further : (line : List ℕ) (lines : List (List ℕ)) (m : Message) → IsBrought f lines m → IsBrought f (line ∷ lines) m
  further line lines m is = record { line = is.line; among = later line lines is.line is.among; body = is.body; admitted = is.admitted }

  pub admitted_of : (d : Delivery) (answer : Result Ack Refusal) (m : Message) → Answers f d answer → Acknowledges d answer m → IsBodyOf d.body m × Admits f m
  admitted_of d (Ok ack) m right acked =
      let is = acknowledged d ack right in
      let same : is.0 ≡ m = only_one d is.0 m is.1 acked.0 acked.1 in
      subst (λ (n : Message). IsBodyOf d.body n × Admits f n) same (is.1, is.2)
  admitted_of d (Err refusal) m right acked = absurd cc

  acked_brought : (relay : List ℕ) (lines : List (List ℕ)) (answers : List (Result Ack Refusal)) (m : Message)
      → AllZip (Answers f) (from_relay relay lines) answers → AcknowledgesAmong (from_relay relay lines) answers m → IsBrought f lines m
  acked_brought relay [] answers m are acked = absurd acked
  acked_brought relay (line ∷ lines) [] m are acked = absurd acked
  acked_brought relay (line ∷ lines) (answer ∷ answers) m are acked =
      elim acked [
        | inl this ↦ (let is = admitted_of (record { relay = relay; body = line }) answer m are.0 this in here line lines m is.0 is.1)
        | inr rest ↦ further line lines m (acked_brought relay lines answers m are.1 rest)
      ]

  acked_here : (d : Delivery) (answer : Result Ack Refusal) (m : Message) → is_among f.relays d.relay ≡ true → IsDeliveryAnswer f d answer
      → (WasWanting answer → ⊥) → IsBodyOf d.body m → Admits f m → IsOk answer
  acked_here d answer m known is had body admitted =
      elim (is.complete (Ok (record {})) (inr (known, (m, body, admitted)))) [
        | inl wanting ↦ absurd (had wanting)
        | inr ok ↦ rw ok refl
      ]

  acked_at : (relay : List ℕ) (lines : List (List ℕ)) (answers : List (Result Ack Refusal)) (m : Message) (line : List ℕ) (k : ℕ)
      → is_among f.relays relay ≡ true → AllZip (IsDeliveryAnswer f) (from_relay relay lines) answers → HadMemory answers → k < length lines
      → get_or lines k line ≡ line → IsBodyOf line m → Admits f m → AcknowledgesAmong (from_relay relay lines) answers m
  acked_at relay [] answers m line k known are had lt is body admitted = absurd (omega arith)
  acked_at relay (l ∷ ls) [] m line k known are had lt is body admitted = absurd are
  acked_at relay (l ∷ ls) (a ∷ more) m line zero known are had lt is body admitted =
      let this : IsBodyOf l m = subst (λ (b : List ℕ). IsBodyOf b m) (sym is) body in
      inl (this.message, this.text, acked_here (record { relay = relay; body = l }) a m known are.0 had.0 this admitted)
  acked_at relay (l ∷ ls) (a ∷ more) m line (suc k) known are had lt is body admitted =
      inr (acked_at relay ls more m line k known are.1 had.1 (omega arith) is body admitted)

  brought_acked : (relay : List ℕ) (lines : List (List ℕ)) (answers : List (Result Ack Refusal)) (m : Message) → is_among f.relays relay ≡ true
      → AllZip (IsDeliveryAnswer f) (from_relay relay lines) answers → HadMemory answers → IsBrought f lines m
      → AcknowledgesAmong (from_relay relay lines) answers m
  brought_acked relay lines answers m known are had is =
      acked_at relay lines answers m is.line is.among.0 known are had is.among.1 is.among.2 is.body is.admitted

  -- without lines nothing is brought
  pub nothing_brought : (m : Message) → IsBrought f [] m → ⊥
  nothing_brought m is = nothing_in is.line is.among

  -- ---- what is held once lines are delivered

  -- what was held, and what the lines bring
  held_with : (relay : List ℕ) (lines : List (List ℕ)) (answers : List (Result Ack Refusal)) (old new : Message → Type 0) → is_among f.relays relay ≡ true
      → AreAnswers f (from_relay relay lines) answers → HadMemory answers → AllZip (Answers f) (from_relay relay lines) answers
      → HeldAfterAll old (from_relay relay lines) answers new → SameSet (HeldWith f lines old) new
  held_with relay lines answers old new known are had right after = λ m. (
    λ h. elim h [
      | inl before ↦ (after m).0 (inl before)
      | inr brought ↦ (after m).0 (inr (brought_acked relay lines answers m known are had brought))
    ],
    λ h. elim ((after m).1 h) [
      | inl before ↦ inl before
      | inr acked ↦ inr (acked_brought relay lines answers m right acked)
    ],
  )

  -- the messages that the lines bring
  all_brought : (relay : List ℕ) (lines : List (List ℕ)) (answers : List (Result Ack Refusal)) → is_among f.relays relay ≡ true
      → AreAnswers f (from_relay relay lines) answers → HadMemory answers → AllZip (Answers f) (from_relay relay lines) answers
      → (messages : List Message) × AreBrought f lines messages
  all_brought relay lines answers known are had right =
      let all = listed (from_relay relay lines) answers right in (
        all.0,
        λ m. (
          λ is. (all.1 m).0 (brought_acked relay lines answers m known are had is),
          λ among. acked_brought relay lines answers m right ((all.1 m).1 among),
        ),
      )

  -- what is taken from an input whose lines were delivered
  pub taken : (relay : List ℕ) (input : Option (List ℕ)) (read lent : List Delivery) (answers shown : List (Result Ack Refusal)) (Up : Type 0)
      (old new : Message → Type 0) (text said : List ℕ) → IsFirst f.relays relay → AreRead relay input read → lent ≡ read → shown ≡ answers
      → AreAnswers f lent answers → (Up → HeldAfterAll old lent answers new) → HadMemory shown → text ≡ complaints 1 shown → said ≡ text
      → (lines : List (List ℕ)) × AreTaken f input lines said × (Up → SameSet (HeldWith f lines old) new)
  taken relay input read lent answers shown Up old new text said first is_read same_read same_answers are after had says same_text =
      let same : lent ≡ from_relay relay is_read.lines = same_read ∙ is_read.deliveries_are in
      let had_memory : HadMemory answers = subst HadMemory same_answers had in
      let of_lines : AreAnswers f (from_relay relay is_read.lines) answers = subst (λ (ds : List Delivery). AreAnswers f ds answers) same are in
      let right = right_answers (from_relay relay is_read.lines) answers of_lines had_memory in
      let all = all_brought relay is_read.lines answers first.among of_lines had_memory right in (
        is_read.lines,
        record {
          relay = relay;
          answers = answers;
          messages = all.0;
          relay_is = first;
          lines_are = is_read.lines_are;
          brought = all.1;
          answered = right;
          said_is = same_text ∙ says ∙ ap (complaints 1) same_answers;
        },
        λ up. held_with relay is_read.lines answers old new first.among of_lines had_memory right
            (subst (λ (ds : List Delivery). HeldAfterAll old ds answers new) same (after up)),
      )
