use Rattle.std.proofs.Common.{refl}
use Rattle.messages.proofs.ListTexts.{no_texts, first_text, as_text, some_text}
use Rattle.messages.proofs.order.texts_rise.Goals as goal

pub returns-in-empty : goal.returns-in-empty
returns-in-empty c = λ ws e. rw (no_texts c.args.items.now ws c.in-empty.len_below e) refl

pub returns-in-Some : goal.returns-in-Some
returns-in-Some c = λ ws e.
    let f = first_text c.args.items.now c.item-item.result ws c.in-len1-up.len_at_least c.item-item.is e in
    let same = as_text c.as_str.result c.item-item.result c.in-Some.text f.first c.as_str.ensures c.in-Some.is f.view_is in
    rw (f.texts_are, ← same) (c.rise_from.ensures f.more f.rest)

pub returns-in-None : goal.returns-in-None
returns-in-None c = λ ws e.
    let f = first_text c.args.items.now c.item-item.result ws c.in-len1-up.len_at_least c.item-item.is e in
    absurd (some_text c.as_str.result c.item-item.result f.first c.as_str.ensures c.in-None.is f.view_is)
