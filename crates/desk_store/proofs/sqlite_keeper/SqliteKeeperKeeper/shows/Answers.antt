use Rattle.std.proofs.Common.{inl, inr, refl}
use Rattle.sqlite.specs.Held.{state}
use Rattle.store_tables.specs.Stored.{content_of}
use Rattle.desk_store.specs.Left.{Left, Nothing, ADesk, AnOldDesk}
use Rattle.desk_store.specs.Crash.{MayLeave}
use Rattle.desk_store.proofs.Listed.{kept_listed, old_listed}
use Rattle.desk_store.proofs.sqlite_keeper.SqliteKeeperKeeper.shows.Goals as goal

-- what is shown is left
pub returns-clause-left : goal.returns-clause-left
returns-clause-left g c = λ up kept.
    let s = state g.S.Store c.args.self.now.conn in
    let shown = c.may_show.ensures up in
    elim kept as (λ _. (left : Left) × MayLeave s left) [
      | inl vacant ↦ (Nothing, (s.now, shown, vacant))
      | inr some ↦ elim some as (λ _. (left : Left) × MayLeave s left) [
        | inl desk ↦ (ADesk (content_of s.now), (s.now, shown, (desk, refl)))
        | inr old ↦ (AnOldDesk (content_of s.now), (s.now, shown, (old, refl)))
      ]
    ]

pub returns-clause-listed : goal.returns-clause-listed
returns-clause-listed g c = λ up kept.
    let db = (state g.S.Store c.args.self.now.conn).now in
    elim kept [ inl desk ↦ kept_listed db desk | inr old ↦ old_listed db old ]
