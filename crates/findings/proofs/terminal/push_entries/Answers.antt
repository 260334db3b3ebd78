use Rattle.std.proofs.Common.{◌≡◌, ◌+◌, List, ℕ, true, false, drop, string_bytes, subst, sym, ap, ◌∙◌}
use Rattle.std.proofs.lemmas.List.{drop_all}
use Rattle.findings.specs.Terminal.{AreEntryLines, is_under, those_under}
use Rattle.findings.specs.declared.entry.AuditEntry.{AuditEntry}
use Rattle.findings.proofs.LineLemmas.{AddsMore, adds_all, adds_more, adds_same, filter_has, filter_lacks}
use Rattle.findings.proofs.terminal.push_entries.Goals as goal
use Rattle.findings.proofs.terminal.push_entries.Goals.{then-is_under+in_ok-push_entry, else-is_under}

pub loop-entry-preserved : goal.loop-entry-preserved
loop-entry-preserved c =
    let l = c.loop-entry in
    let IsText : AuditEntry → List ℕ → Type 0 = AreEntryLines c.args.roster.now.says c.args.until.now in
    let es = c.args.entries.now in
    let b = c.args.is_asked in
    let x = c.entry-item.result in
    let whole = those_under b es in
    let rest = those_under b (drop l.entry-index es) in
    let others = those_under b (drop (l.entry-index + 1) es) in
    let old = string_bytes c.args.out.now in
    let out = string_bytes l.out in
    elim c.if-is_under.branch [
      | then-is_under+in_ok-push_entry w ↦
          let has : is_under b x ≡ true = sym c.is_under.ensures ∙ w.if-is_under.true in
          let new = string_bytes w.push_entry.new.out in
          subst (λ (t : List ℕ). AddsMore IsText whole others old t) (sym (ap string_bytes w.out-is))
          (adds_more IsText whole rest old out l.invariant x others new (filter_has (is_under b) es l.entry-index x c.loop-entry-test.true c.entry-item.is has)
          w.in_ok-push_entry.ensures)
      | else-is_under w ↦
          let lacks : is_under b x ≡ false = sym c.is_under.ensures ∙ w.if-is_under.false in
          subst (λ (t : List ℕ). AddsMore IsText whole others old t) (sym (ap string_bytes w.out-is))
          (adds_same IsText whole rest old out l.invariant others (filter_lacks (is_under b) es l.entry-index x c.loop-entry-test.true c.entry-item.is lacks))
    ]

pub returns : goal.returns
returns c =
    let l = c.loop-entry in
    let IsText : AuditEntry → List ℕ → Type 0 = AreEntryLines c.args.roster.now.says c.args.until.now in
    let es = c.args.entries.now in
    adds_all IsText (those_under c.args.is_asked es) (those_under c.args.is_asked (drop l.entry-index es))
    (string_bytes c.args.out.now) (string_bytes l.out) l.invariant
    (ap (λ (ys : List AuditEntry). those_under c.args.is_asked ys) (drop_all l.entry-index es c.loop-entry-test.false))
