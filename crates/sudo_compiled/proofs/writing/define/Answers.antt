use Rattle.std.proofs.Common.{sym, ◌∙◌}
use Rattle.sudo_compiled.proofs.WrittenLists.{stands_more, stands_without, then_list}
use Rattle.sudo_compiled.specs.private.Used.{has, is_list_used}
use Rattle.sudo_compiled.proofs.writing.define.Goals as goal

pub returns-in_ok-add : goal.returns-in_ok-add
returns-in_ok-add g c = λ defs used stands.
    let names = c.args.used.now in
    let list = then_list (has names c.args.name.now) (is_list_used g.K.Kind.alias_of names c.args.list.now) used (sym c.has.ensures ∙ c.if-has.true) in
    stands_more g.K.Kind.alias_of g.K.Kind.plain g.K.Kind.says names defs c.args.known.now c.add.new.self c.args.name.now
    c.args.list.now c.in_ok-written.written.items g.K.Kind.local c.in_ok-written.ensures c.in_ok-add.ensures list stands

pub returns-else-has : goal.returns-else-has
returns-else-has g c = λ defs used stands.
    stands_without g.K.Kind.plain g.K.Kind.says c.args.used.now defs c.args.known.now c.args.name.now c.args.list.now
    (sym c.has.ensures ∙ c.if-has.false) stands
