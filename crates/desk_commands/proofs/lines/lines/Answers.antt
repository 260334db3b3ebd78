use Rattle.std.proofs.Common.{◌≡◌, ℕ, List, String, Vec, ◌<◌, ◌∙◌, ap, length, map, refl, sym, vec_len}
use Rattle.std.specs.String.{string_bytes}
use Rattle.std.specs.declared.alloc.Global.{Global}
use Rattle.desk.specs.Delivery.{delivery_of}
use Rattle.desk_commands.proofs.LineLemmas.{all_read, last_read, line_ends, line_grows, no_bytes, one_more, some_bytes}
use Rattle.desk_commands.proofs.lines.lines.Goals as goal
use Rattle.desk_commands.proofs.lines.lines.Goals.{else-byte-eq10+in_ok-push-2, else-not-is_empty}
use Rattle.desk_commands.proofs.lines.lines.Goals.{then-byte-eq10+in_ok-name+in_ok-push, then-not-is_empty+in_ok-from_str+in_ok-push-3}

brought_is : (name : String Global) (bytes : Vec ℕ Global) (relay line : List ℕ) → string_bytes name ≡ relay → bytes.items ≡ line
    → delivery_of (name, bytes) ≡ record { relay = relay; body = line }
brought_is name bytes relay line of_relay of_line = λ i. record { relay = of_relay i; body = of_line i }

pub loop-byte-preserved : goal.loop-byte-preserved
loop-byte-preserved c =
    let lt : c.loop-byte.byte-index < length c.args.bytes.now = c.loop-byte-test.true in
    elim c.if-byte-eq10.branch [
      | then-byte-eq10+in_ok-name+in_ok-push w ↦
          line_ends _ c.args.bytes.now _ _ c.loop-byte.byte-index _ _ lt w.if-byte-eq10.true
          (one_more delivery_of c.loop-byte.lines.items c.if-byte-eq10.lines.items (w.in_ok-name.name, w.replace.result) _ (ap (λ v. v.items) w.lines-is
          ∙ w.in_ok-push.ensures.items) (brought_is w.in_ok-name.name w.replace.result c.args.relay.now c.loop-byte.line.items w.in_ok-name.ensures.ok
          (ap (λ v. v.items) w.replace.ensures.value))) (ap (λ v. v.items) (w.line-is ∙ w.replace.ensures.after) ∙ w.new.ensures.items) c.loop-byte.invariant
      | else-byte-eq10+in_ok-push-2 w ↦
          line_grows _ c.args.bytes.now _ _ c.loop-byte.byte-index _ _ lt w.if-byte-eq10.false
          (ap (λ v. map delivery_of v.items) w.lines-is) (ap (λ v. v.items) w.line-is ∙ w.in_ok-push-2.ensures.items) c.loop-byte.invariant
    ]

pub returns : goal.returns
returns c =
    elim c.if-not-is_empty.branch [
      | then-not-is_empty+in_ok-from_str+in_ok-push-3 w ↦
          last_read _ c.args.bytes.now _ _ c.loop-byte.byte-index _ c.loop-byte-test.false
          (some_bytes c.loop-byte.line.items (vec_len c.loop-byte.line) c.loop-byte.line.ok.0 (sym w.if-not-is_empty.ensures))
          (one_more delivery_of c.loop-byte.lines.items c.if-not-is_empty.lines.items (w.in_ok-from_str.field-0, c.loop-byte.line) _
          (ap (λ v. v.items) w.lines-is ∙ w.in_ok-push-3.ensures.items)
          (brought_is w.in_ok-from_str.field-0 c.loop-byte.line c.args.relay.now c.loop-byte.line.items w.in_ok-from_str.ensures.ok refl)) c.loop-byte.invariant
      | else-not-is_empty w ↦ ap (λ v. map delivery_of v.items) w.lines-is
          ∙ all_read _ c.args.bytes.now _ _ c.loop-byte.byte-index c.loop-byte-test.false
          (no_bytes c.loop-byte.line.items (vec_len c.loop-byte.line) c.loop-byte.line.ok.0 (sym w.if-not-is_empty.ensures)) c.loop-byte.invariant
    ]
