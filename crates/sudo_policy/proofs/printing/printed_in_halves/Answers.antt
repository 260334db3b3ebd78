use Rattle.sudo_policy.proofs.PolicyFronts.{canon_halves}
use Rattle.sudo_policy.proofs.printing.printed_in_halves.Goals as goal

pub returns : goal.returns
returns c =
    rw (
      c.in_ok-push_str.ensures.bytes,
      c.as_str.ensures.value,
      c.in_ok-rest.ensures,
      c.split_at.ensures.back,
      c.as_slice.ensures.value,
      c.in_ok-out.ensures,
      c.as_slice-2.ensures.value,
      c.shrink_to_fit.ensures.items,
      c.truncate.ensures.items,
    ) (canon_halves c.args.entries.items _)
