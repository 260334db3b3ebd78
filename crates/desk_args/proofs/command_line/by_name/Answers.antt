use Rattle.std.proofs.Common.{codes, sym, ◌∙◌}
use Rattle.clap.specs.Words.{found_of, rows_of}
use Rattle.desk_args.proofs.Readings.{read_by_name}
use Rattle.desk_args.proofs.Wanted.{is_serve, named, wanted_at}
use Rattle.desk_args.proofs.command_line.by_name.Goals as goal

pub check-requires : goal.check-requires
check-requires c =
    let same = named (codes "check") c.args.name.now (sym c.eq.ensures ∙ c.if-eq.true) in
    wanted_at (codes "check") c.args.name.now (rows_of (found_of c.args.matches.now)) same c.requires

pub decide-requires : goal.decide-requires
decide-requires c =
    let same = named (codes "decide") c.args.name.now (sym c.eq-else-eq.ensures ∙ c.if-eq-2.true) in
    wanted_at (codes "decide") c.args.name.now (rows_of (found_of c.args.matches.now)) same c.requires

pub returns-then-eq-2 : goal.returns-then-eq-2
returns-then-eq-2 c =
    let same = named (codes "decide") c.args.name.now (sym c.eq-else-eq.ensures ∙ c.if-eq-2.true) in
    read_by_name (codes "decide") c.args.name.now
    (rows_of (found_of c.args.matches.now)) c.decide.result same c.decide.ensures.found c.decide.ensures.only c.decide.ensures.word c.decide.ensures.usage

pub beyond-requires : goal.beyond-requires
beyond-requires c =
    let same = named (codes "beyond") c.args.name.now (sym c.eq-else-eq-2.ensures ∙ c.if-eq-3.true) in
    wanted_at (codes "beyond") c.args.name.now (rows_of (found_of c.args.matches.now)) same c.requires

pub returns-then-eq-3 : goal.returns-then-eq-3
returns-then-eq-3 c =
    let same = named (codes "beyond") c.args.name.now (sym c.eq-else-eq-2.ensures ∙ c.if-eq-3.true) in
    read_by_name (codes "beyond") c.args.name.now
    (rows_of (found_of c.args.matches.now)) c.beyond.result same c.beyond.ensures.found c.beyond.ensures.only c.beyond.ensures.word c.beyond.ensures.usage

pub deliver-requires : goal.deliver-requires
deliver-requires c =
    let same = named (codes "deliver") c.args.name.now (sym c.eq-else-eq-3.ensures ∙ c.if-eq-4.true) in
    wanted_at (codes "deliver") c.args.name.now (rows_of (found_of c.args.matches.now)) same c.requires

pub returns-then-eq-4 : goal.returns-then-eq-4
returns-then-eq-4 c =
    let same = named (codes "deliver") c.args.name.now (sym c.eq-else-eq-3.ensures ∙ c.if-eq-4.true) in
    read_by_name (codes "deliver") c.args.name.now
    (rows_of (found_of c.args.matches.now)) c.deliver.result same c.deliver.ensures.found c.deliver.ensures.only c.deliver.ensures.word c.deliver.ensures.usage

pub print-requires : goal.print-requires
print-requires c =
    let same = named (codes "print") c.args.name.now (sym c.eq-else-eq-4.ensures ∙ c.if-eq-5.true) in
    wanted_at (codes "print") c.args.name.now (rows_of (found_of c.args.matches.now)) same c.requires

pub returns-then-eq-5 : goal.returns-then-eq-5
returns-then-eq-5 c =
    let same = named (codes "print") c.args.name.now (sym c.eq-else-eq-4.ensures ∙ c.if-eq-5.true) in
    read_by_name (codes "print") c.args.name.now
    (rows_of (found_of c.args.matches.now)) c.print.result same c.print.ensures.found c.print.ensures.only c.print.ensures.word c.print.ensures.usage

pub review-requires : goal.review-requires
review-requires c =
    let same = named (codes "review") c.args.name.now (sym c.eq-else-eq-5.ensures ∙ c.if-eq-6.true) in
    wanted_at (codes "review") c.args.name.now (rows_of (found_of c.args.matches.now)) same c.requires

pub returns-then-eq-6 : goal.returns-then-eq-6
returns-then-eq-6 c =
    let same = named (codes "review") c.args.name.now (sym c.eq-else-eq-5.ensures ∙ c.if-eq-6.true) in
    read_by_name (codes "review") c.args.name.now
    (rows_of (found_of c.args.matches.now)) c.review.result same c.review.ensures.found c.review.ensures.only c.review.ensures.word c.review.ensures.usage

pub rebuild-requires : goal.rebuild-requires
rebuild-requires c =
    let same = named (codes "rebuild") c.args.name.now (sym c.eq-else-eq-6.ensures ∙ c.if-eq-7.true) in
    wanted_at (codes "rebuild") c.args.name.now (rows_of (found_of c.args.matches.now)) same c.requires

pub returns-then-eq-7 : goal.returns-then-eq-7
returns-then-eq-7 c =
    let same = named (codes "rebuild") c.args.name.now (sym c.eq-else-eq-6.ensures ∙ c.if-eq-7.true) in
    read_by_name (codes "rebuild") c.args.name.now
    (rows_of (found_of c.args.matches.now)) c.rebuild.result same c.rebuild.ensures.found c.rebuild.ensures.only c.rebuild.ensures.word c.rebuild.ensures.usage

pub serve-requires : goal.serve-requires
serve-requires c =
    let same = is_serve c.args.name.now (rows_of (found_of c.args.matches.now)) c.requires (sym c.eq.ensures ∙ c.if-eq.false) (sym c.eq-else-eq.ensures
    ∙ c.if-eq-2.false) (sym c.eq-else-eq-2.ensures ∙ c.if-eq-3.false) (sym c.eq-else-eq-3.ensures ∙ c.if-eq-4.false) (sym c.eq-else-eq-4.ensures
    ∙ c.if-eq-5.false) (sym c.eq-else-eq-5.ensures ∙ c.if-eq-6.false) (sym c.eq-else-eq-6.ensures ∙ c.if-eq-7.false) in
    wanted_at (codes "serve") c.args.name.now (rows_of (found_of c.args.matches.now)) same c.requires

pub returns-else-eq-7 : goal.returns-else-eq-7
returns-else-eq-7 c =
    let same = is_serve c.args.name.now (rows_of (found_of c.args.matches.now)) c.requires (sym c.eq.ensures ∙ c.if-eq.false) (sym c.eq-else-eq.ensures
    ∙ c.if-eq-2.false) (sym c.eq-else-eq-2.ensures ∙ c.if-eq-3.false) (sym c.eq-else-eq-3.ensures ∙ c.if-eq-4.false) (sym c.eq-else-eq-4.ensures
    ∙ c.if-eq-5.false) (sym c.eq-else-eq-5.ensures ∙ c.if-eq-6.false) (sym c.eq-else-eq-6.ensures ∙ c.if-eq-7.false) in
    read_by_name (codes "serve") c.args.name.now
    (rows_of (found_of c.args.matches.now)) c.serve.result same c.serve.ensures.found c.serve.ensures.only c.serve.ensures.word c.serve.ensures.usage
