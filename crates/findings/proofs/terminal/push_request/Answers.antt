use Rattle.std.proofs.Common.{◌++◌, ℕ, List, string_bytes, subst, sym, ap, ◌∙◌}
use Rattle.std.specs.List.{flat_map}
use Rattle.std.specs.Prelude.{All, codes}
use Rattle.sudo_words.specs.Command.{IsLawful}
use Rattle.sudo_words.specs.declared.cmnd.Cmnd.{Cmnd}
use Rattle.findings.specs.Terminal.{asked_text, cmnd_line, line, plain_line}
use Rattle.findings.proofs.PieceLemmas.{piece}
use Rattle.findings.proofs.terminal.push_request.Goals as goal

pub push_cmnds-requires : goal.push_cmnds-requires
push_cmnds-requires c =
    let P : List Cmnd → Type 0 = λ cs. All IsLawful cs in
    subst P (sym c.cmnds.ensures.value) c.cmnds.ensures.request.cmnds.1

pub returns : goal.returns
returns c =
    let old = string_bytes c.args.out.now in
    let q = c.args.request.now in
    let a = asked_text q in
    let b = plain_line (codes "ceiling") q.ceiling in
    let t = plain_line (codes "target") q.runas in
    let h = line (codes "hosts") q.hosts in
    let m = flat_map cmnd_line q.cmnds in
    let one = string_bytes c.push_asked.new.out in
    let two = string_bytes c.push_plain.new.out in
    let three = string_bytes c.push_plain-2.new.out in
    let four = string_bytes c.push_hosts.new.out in
    piece old (a ++ b ++ t ++ h) four m (string_bytes c.push_cmnds.new.out)
    (piece old (a ++ b ++ t) three h four
    (piece old (a ++ b) two t three
    (piece old a one b two c.in_ok-push_asked.ensures
    (c.in_ok-push_plain.ensures ∙ ap (λ (w : List ℕ). one ++ plain_line (codes "ceiling") w) (c.as_str.ensures.value ∙ c.ceiling.ensures.value)))
    (c.in_ok-push_plain-2.ensures ∙ ap (λ (w : List ℕ). two ++ plain_line (codes "target") w) (c.as_str-2.ensures.value ∙ c.runas.ensures.value)))
    (c.in_ok-push_hosts.ensures ∙ ap (λ (ws : List (List ℕ)). three ++ line (codes "hosts") ws) c.hosts.ensures.value))
    (c.in_ok-push_cmnds.ensures ∙ ap (λ (cs : List Cmnd). four ++ flat_map cmnd_line cs) c.cmnds.ensures.value)
