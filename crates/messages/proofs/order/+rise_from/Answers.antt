use Rattle.std.proofs.Common.{◌∙◌, sym, refl}
use Rattle.messages.proofs.ListTexts.{no_texts, first_text, as_text, some_text, goes_on, stops}
use Rattle.messages.proofs.order.+rise_from.Goals as goal

pub returns-in-empty : goal.returns-in-empty
returns-in-empty t c = λ ws e. rw (no_texts c.args.items.now ws c.in-empty.len_below e) refl

pub returns-then-lt : goal.returns-then-lt
returns-then-lt t c = λ ws e.
    let f = first_text c.args.items.now c.item-item.result ws c.in-len1-up.len_at_least c.item-item.is e in
    let same = as_text c.as_str.result c.item-item.result c.in-Some.text f.first c.as_str.ensures c.in-Some.is f.view_is in
    goes_on c.args.low.now c.in-Some.text.now f.first f.more ws c.rise_from.result f.texts_are same
    (sym c.lt.ensures ∙ c.if-lt.true) (c.rise_from.ensures f.more f.rest)

pub returns-else-lt : goal.returns-else-lt
returns-else-lt t c = λ ws e.
    let f = first_text c.args.items.now c.item-item.result ws c.in-len1-up.len_at_least c.item-item.is e in
    let same = as_text c.as_str.result c.item-item.result c.in-Some.text f.first c.as_str.ensures c.in-Some.is f.view_is in
    c.if-lt.false ∙ stops c.args.low.now c.in-Some.text.now f.first f.more ws f.texts_are same (sym c.lt.ensures ∙ c.if-lt.false)

pub returns-in-None : goal.returns-in-None
returns-in-None t c = λ ws e.
    let f = first_text c.args.items.now c.item-item.result ws c.in-len1-up.len_at_least c.item-item.is e in
    absurd (some_text c.as_str.result c.item-item.result f.first c.as_str.ensures c.in-None.is f.view_is)
