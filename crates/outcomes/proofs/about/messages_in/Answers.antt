use Rattle.std.proofs.Common.{◌≡◌, ◌∙◌, ℕ, true, List, IfOk, subst, sym}
use Rattle.sudo_words.specs.Word.{is_name}
use Rattle.sudo_words.specs.declared.fault.WordFault.{WordFault}
use Rattle.sudo_words.specs.declared.fault.WordFault.TheVariants.{BadWord, NoMemory}
use Rattle.outcomes.specs.About.{AreTold}
use Rattle.outcomes.proofs.AboutLemmas.{about_nobody}
use Rattle.outcomes.proofs.about.messages_in.Goals as goal

pub returns-in-Ok : goal.returns-in-Ok
returns-in-Ok c = λ set are messages.
    subst (λ (by : List ℕ). IfOk c.messages_at.result (AreTold set (record { by = by; no = c.args.no }))) c.in-Ok.ensures.found.0
    (c.messages_at.ensures set are)

pub returns-in-Err-BadWord : goal.returns-in-Err-BadWord
returns-in-Err-BadWord c = λ set are messages.
    let unlawful : is_name c.args.asker.now ≡ true → ⊥ = λ lawful.
    let wrong : ◌≡◌ {A = WordFault} BadWord NoMemory = sym c.in-Err-BadWord.field-0-is ∙ c.in-Err-BadWord.ensures.only lawful in absurd cc in
    about_nobody set c.args.asker.now c.args.no messages unlawful c.new.result.items c.new.ensures.items
