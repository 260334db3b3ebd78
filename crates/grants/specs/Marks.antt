-- The marks of a summary: for each person, every moment at which the person gave a verdict of one
-- kind.
use Rattle.std.specs.Prelude.{◌↔◌, List, Contains}
use Rattle.std.specs.Cmp.Lexicographic.{slice_cmp}
use Rattle.std.specs.List.Sorted.{IsStrictlySortedBy}
use Rattle.std.specs.Ordering.{nat_cmp, ordering_then}
use Rattle.std.specs.declared.cmp.Ordering.{Ordering}
use Rattle.messages.specs.Fields.{RequestFields, VerdictFields}
use Rattle.messages.specs.declared.message.Message.{Message}
use Rattle.messages.specs.declared.message.Message.TheVariants.{Verdict}
use Rattle.messages.specs.declared.kind.VerdictKind.{VerdictKind}
use Rattle.grants.specs.declared.marks.Mark.{Mark}

-- the verdict that a mark of the kind keeps
abbrev pub verdict_of : RequestFields → VerdictKind → Mark → VerdictFields
verdict_of q kind mark = record {
  at = mark.at;
  by = mark.person;
  kind = kind;
  no = q.no;
  of = q.by;
}

-- by person in byte order, then by moment
abbrev pub mark_cmp : Mark → Mark → Ordering
mark_cmp a b = ordering_then (slice_cmp nat_cmp a.person b.person) (nat_cmp a.at b.at)

-- The marks are the set's verdicts of the kind on the request, whether they count or not: each of
-- them, exactly once.
pub record Keep (messages : List Message)
    (q : RequestFields) (kind : VerdictKind) (marks : List Mark) : Type 0 where
  pub each : (mark : Mark)
      → Contains marks mark ↔ Contains messages (Verdict (verdict_of q kind mark))
  pub once : IsStrictlySortedBy mark_cmp marks
