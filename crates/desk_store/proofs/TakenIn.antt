-- Messages that are taken in one after another, from the end of a list that was turned round.
use Rattle.std.proofs.Common.{◌≡◌, List, [], ◌∷◌, ◌++◌, reverse, refl, sym, ap, ◌∙◌, subst, append_assoc}
use Rattle.std.proofs.lemmas.List.{append-nil, reverse-append}
use Rattle.messages.specs.declared.message.Message.{Message}
use Rattle.outcomes.specs.Gathered.{AreGathered, Known}

-- the first messages of all, of which this is known; the others are left
pub record TakenIn (all left : List Message) (known : Known) : Type 0 where
  pub before : List Message
  pub all_are : before ++ reverse left ≡ all
  pub gathered : AreGathered before known

pub none_taken : (left : List Message) (known : Known) → AreGathered [] known → TakenIn (reverse left) left known
none_taken left known none = record { before = []; all_are = refl; gathered = none }

pub one_taken : (all old new : List Message) (m : Message) (known more : Known) → old ≡ new ++ m ∷ []
    → ((set : List Message) → AreGathered set known → AreGathered (set ++ m ∷ []) more)
    → TakenIn all old known → TakenIn all new more
one_taken all old new m known more is take t = record {
  before = t.before ++ m ∷ [];
  all_are =
      append_assoc t.before (m ∷ []) (reverse new)
      ∙ ap (λ (ms : List Message). t.before ++ ms) (sym (reverse-append new (m ∷ [])) ∙ ap reverse (sym is))
      ∙ t.all_are;
  gathered = take t.before t.gathered;
}

pub all_taken : (all : List Message) (known : Known) → TakenIn all [] known → AreGathered all known
all_taken all known t =
    subst (λ (ms : List Message). AreGathered ms known) (sym (append-nil t.before) ∙ t.all_are) t.gathered
