use Rattle.std.proofs.Common.{◌≡◌, ◌++◌, ◌∷◌, [], List, ℕ, false, subst, sym, ◌∙◌}
use Rattle.messages.specs.Wire.{wire}
use Rattle.messages.specs.declared.message.Message.{Message}
use Rattle.desk_store.specs.private.Collected.{IsKept, has_text}
use Rattle.desk_store.proofs.CollectedLemmas.{put_kept}
use Rattle.desk_store.proofs.collected.Collected.put.Goals as goal

pub invariant_of-self-in-Ok : goal.invariant_of-self-in-Ok
invariant_of-self-in-Ok c =
    let ms = c.self.inside.messages.items in
    let ks = c.self.inside.texts.keys in
    let m = c.args.message.now in
    let T : List ℕ → Type 0 = λ t. has_text ks t ≡ false in
    let missing : has_text ks (wire m) ≡ false = subst T c.requires.text (sym c.knows.ensures ∙ c.if-knows.false) in
    let items : c.push_reserved.new.self.items ≡ ms ++ m ∷ [] =
    c.push_reserved.ensures.items ∙ (λ i. c.in_ok-copy.ensures.same i ++ c.in_ok-copy.ensures.message i ∷ []) in
    let P : List Message → Type 0 = λ l. IsKept l c.add_text.new.texts.keys in
    subst P (sym items) (put_kept ms ks m c.self.invariant c.requires.message c.in_ok-copy.key c.add_text.new.texts.keys
    (c.in_ok-copy.ensures.text ∙ c.requires.text) missing c.in-Ok.ensures.keys)
