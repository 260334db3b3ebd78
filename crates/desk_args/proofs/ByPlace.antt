-- For each of the program's commands, words that are not options are positional.
use Rattle.std.specs.Prelude.{◌≡◌, ℕ, List, [], ◌∷◌, Some, None, true, codes, slice_index_or, refl}
use Rattle.std.specs.List.{list_all}
use Rattle.std.proofs.Common.{◌∙◌, ap, inl, subst, sym}
use Rattle.clap.proofs.OnLiterals.{clap_on_literals}
use Rattle.clap.specs.Simple.{Shape, built}
use Rattle.clap.specs.Walk.{Row, Text, finished, first_of}
use Rattle.desk_args.specs.CommandLine.{ArePlaces, HasSync, HasValue, IsCommandLine, SaysJob, check, desk_app}
use Rattle.desk_args.specs.Operands.{SaysByPlace, SaysPlace, is_operand}
use Rattle.desk_args.specs.declared.task.Job.{Job}
use Rattle.desk_args.specs.declared.task.Job.TheVariants.{Beyond, Check, Decide, Deliver, Print, Rebuild, Review, Serve}
use Rattle.desk_args.specs.declared.task.Places.{Places}
use Rattle.desk_args.specs.declared.task.Sync.TheVariants.{Once}
use Rattle.desk_args.proofs.Placed.{Enters, entered_named, faultless_named, level_place, never_trails, placed, placed_level, rows_place}
use Rattle.desk_args.proofs.ArgsPlaced.{args_are, args_row, six, six_faultless, six_rows}

abbrev nth : ℕ → Shape
nth n = slice_index_or (built desk_app).subs n check.top

-- a command that is entered by its name, and what it makes of the words after it
record Takes (name : Text) (leaf : Shape) (rest : List Text) (rows : List Row) : Type 0 where
  pub enters : Enters (built desk_app) name leaf
  pub operands : list_all is_operand rest ≡ true
  pub leads : list_all never_trails leaf.rules ≡ true
  pub faultless : placed_level leaf rest ≡ []
  pub finds : finished leaf.rules (placed leaf.rules rest).held ≡ rows

line : (program name : Text) (leaf : Shape) (rest : List Text) (rows : List Row) (job : Job) → Takes name leaf rest rows → SaysJob (Some (leaf.name, rows)) job
    → IsCommandLine (program ∷ name ∷ rest) job
line program name leaf rest rows job takes says = record {
  faultless = faultless_named (built desk_app) name leaf rest takes.enters (level_place leaf rest takes.operands takes.leads ∙ takes.faultless);
  says = subst (λ found. SaysJob found job)
      (sym (entered_named (built desk_app) name leaf rest takes.enters
      ∙ ap (λ (found : List Row). Some (leaf.name, found)) (rows_place leaf.rules rest takes.operands takes.leads ∙ takes.finds))) says;
}

enters_check : Enters (built desk_app) (codes "check") (nth 0)
unfolding clap_on_literals
enters_check = record { walks = refl; turns = refl; finds = refl; settles = refl; defaults = refl; checks = refl }

enters_decide : Enters (built desk_app) (codes "decide") (nth 1)
unfolding clap_on_literals
enters_decide = record { walks = refl; turns = refl; finds = refl; settles = refl; defaults = refl; checks = refl }

enters_beyond : Enters (built desk_app) (codes "beyond") (nth 2)
unfolding clap_on_literals
enters_beyond = record { walks = refl; turns = refl; finds = refl; settles = refl; defaults = refl; checks = refl }

enters_deliver : Enters (built desk_app) (codes "deliver") (nth 3)
unfolding clap_on_literals
enters_deliver = record { walks = refl; turns = refl; finds = refl; settles = refl; defaults = refl; checks = refl }

enters_print : Enters (built desk_app) (codes "print") (nth 4)
unfolding clap_on_literals
enters_print = record { walks = refl; turns = refl; finds = refl; settles = refl; defaults = refl; checks = refl }

enters_review : Enters (built desk_app) (codes "review") (nth 5)
unfolding clap_on_literals
enters_review = record { walks = refl; turns = refl; finds = refl; settles = refl; defaults = refl; checks = refl }

enters_rebuild : Enters (built desk_app) (codes "rebuild") (nth 6)
unfolding clap_on_literals
enters_rebuild = record { walks = refl; turns = refl; finds = refl; settles = refl; defaults = refl; checks = refl }

enters_serve : Enters (built desk_app) (codes "serve") (nth 7)
unfolding clap_on_literals
enters_serve = record { walks = refl; turns = refl; finds = refl; settles = refl; defaults = refl; checks = refl }

-- the command takes the words, and finds no fault in them
abbrev Finds : Text → Shape → List Text → Type 0
Finds name leaf rest = Takes name leaf rest (finished leaf.rules (placed leaf.rules rest).held)

checks : (file : Text) → list_all is_operand (file ∷ []) ≡ true → Finds (codes "check") (nth 0) (file ∷ [])
unfolding clap_on_literals
checks file all = record { enters = enters_check; operands = all; leads = refl; faultless = refl; finds = refl }

compares : (a b : Text) → list_all is_operand (a ∷ b ∷ []) ≡ true → Finds (codes "beyond") (nth 2) (a ∷ b ∷ [])
unfolding clap_on_literals
compares a b all = record { enters = enters_beyond; operands = all; leads = refl; faultless = refl; finds = refl }

delivers : (roster base store relay : Text) → list_all is_operand (roster ∷ base ∷ store ∷ relay ∷ []) ≡ true
    → Finds (codes "deliver") (nth 3) (roster ∷ base ∷ store ∷ relay ∷ [])
unfolding clap_on_literals
delivers roster base store relay all = record { enters = enters_deliver; operands = all; leads = refl; faultless = refl; finds = refl }

prints : (roster base store host : Text) → list_all is_operand (roster ∷ base ∷ store ∷ host ∷ []) ≡ true
    → Finds (codes "print") (nth 4) (roster ∷ base ∷ store ∷ host ∷ [])
unfolding clap_on_literals
prints roster base store host all = record { enters = enters_print; operands = all; leads = refl; faultless = refl; finds = refl }

reviews : (roster base store at : Text) → list_all is_operand (roster ∷ base ∷ store ∷ at ∷ []) ≡ true
    → Finds (codes "review") (nth 5) (roster ∷ base ∷ store ∷ at ∷ [])
unfolding clap_on_literals
reviews roster base store at all = record { enters = enters_review; operands = all; leads = refl; faultless = refl; finds = refl }

rebuilds : (roster base store : Text) → list_all is_operand (roster ∷ base ∷ store ∷ []) ≡ true
    → Finds (codes "rebuild") (nth 6) (roster ∷ base ∷ store ∷ [])
unfolding clap_on_literals
rebuilds roster base store all = record { enters = enters_rebuild; operands = all; leads = refl; faultless = refl; finds = refl }

serves : (roster base store addr : Text) → list_all is_operand (roster ∷ base ∷ store ∷ addr ∷ []) ≡ true
    → Finds (codes "serve") (nth 7) (roster ∷ base ∷ store ∷ addr ∷ [])
unfolding clap_on_literals
serves roster base store addr all = record { enters = enters_serve; operands = all; leads = refl; faultless = refl; finds = refl }

decides : (f u h r t p : Text) (args : List Text) → list_all is_operand (f ∷ u ∷ h ∷ r ∷ t ∷ p ∷ args) ≡ true
    → Takes (codes "decide") (nth 1) (f ∷ u ∷ h ∷ r ∷ t ∷ p ∷ args) (six f u h r t p (args_row args))
decides f u h r t p args all = record {
  enters = enters_decide;
  operands = all;
  leads = refl;
  faultless = six_faultless f u h r t p args;
  finds = six_rows f u h r t p args;
}

-- the places of a command on a desk without an option
placed_at : (rows : List Row) (places : Places) (store : Text) → SaysPlace store places → HasValue (codes "ROSTER") rows places.roster
    → HasValue (codes "BASE") rows places.base → HasValue (codes "STORE") rows store → first_of (codes "SYNC") rows ≡ None → ArePlaces rows places
placed_at rows places store says is_roster is_base is_store none =
    let once : HasSync (codes "SYNC") rows Once = inl none in
    record {
      roster = is_roster;
      base = is_base;
      store = (store, is_store, says.0);
      sync = subst (λ s. HasSync (codes "SYNC") rows s) (sym says.1) once;
    }

pub said : (program : Text) (words : List Text) (job : Job) → list_all is_operand words ≡ true → SaysByPlace words job → IsCommandLine (program ∷ words) job
unfolding clap_on_literals
said program words (Check file) all is =
    subst (λ ws. list_all is_operand ws ≡ true → IsCommandLine (program ∷ ws) (Check file)) (sym is)
    (λ operands. line program (codes "check") (nth 0) (file ∷ []) _ (Check file) (checks file operands) (refl, refl)) all
said program words (Decide file run) all is =
    let (at, stamp, forms, same) = is in
    subst (λ ws. list_all is_operand ws ≡ true → IsCommandLine (program ∷ ws) (Decide file run)) (sym same)
    (λ operands. line program (codes "decide") (nth 1) (file ∷ run.user ∷ run.host ∷ run.runas ∷ at ∷ run.path ∷ run.args) _ (Decide file run)
    (decides file run.user run.host run.runas at run.path run.args operands) (
      refl,
      refl,
      record {
        user = (refl, forms.user);
        host = (refl, forms.host);
        runas = (refl, forms.runas);
        at = (at, refl, stamp);
        path = (refl, forms.path);
        args = (args_are file run.user run.host run.runas at run.path run.args, forms.args, forms.few);
      },
    )) all
said program words (Beyond a b scope) all is =
    subst (λ ws. list_all is_operand ws ≡ true → IsCommandLine (program ∷ ws) (Beyond a b scope)) (sym is.0)
    (λ operands. subst (λ s. IsCommandLine (program ∷ codes "beyond" ∷ a ∷ b ∷ []) (Beyond a b s)) (sym is.1)
    (line program (codes "beyond") (nth 2) (a ∷ b ∷ []) _ (Beyond a b (record { user = None; host = None; runas = None })) (compares a b operands)
    (refl, refl, refl, record { user = refl; host = refl; runas = refl }))) all
said program words (Deliver places relay) all is =
    let (store, says, same) = is in
    subst (λ ws. list_all is_operand ws ≡ true → IsCommandLine (program ∷ ws) (Deliver places relay)) (sym same)
    (λ operands. line program (codes "deliver") (nth 3) (places.roster ∷ places.base ∷ store ∷ relay ∷ []) _ (Deliver places relay)
    (delivers places.roster places.base store relay operands) (refl, placed_at _ places store says refl refl refl refl, refl)) all
said program words (Print places host after) all is =
    let (store, says, same, name, none) = is in
    subst (λ ws. list_all is_operand ws ≡ true → IsCommandLine (program ∷ ws) (Print places host after)) (sym same)
    (λ operands. subst (λ m. IsCommandLine (program ∷ codes "print" ∷ places.roster ∷ places.base ∷ store ∷ host ∷ []) (Print places host m)) (sym none)
    (line program (codes "print") (nth 4) (places.roster ∷ places.base ∷ store ∷ host ∷ []) _ (Print places host None)
    (prints places.roster places.base store host operands)
    (refl, placed_at _ places store says refl refl refl refl, (refl, name), refl))) all
said program words (Review places at) all is =
    let (store, text, says, stamp, same) = is in
    subst (λ ws. list_all is_operand ws ≡ true → IsCommandLine (program ∷ ws) (Review places at)) (sym same)
    (λ operands. line program (codes "review") (nth 5) (places.roster ∷ places.base ∷ store ∷ text ∷ []) _ (Review places at)
    (reviews places.roster places.base store text operands)
    (refl, placed_at _ places store says refl refl refl refl, (text, refl, stamp))) all
said program words (Rebuild places) all is =
    let (store, says, same) = is in
    subst (λ ws. list_all is_operand ws ≡ true → IsCommandLine (program ∷ ws) (Rebuild places)) (sym same)
    (λ operands. line program (codes "rebuild") (nth 6) (places.roster ∷ places.base ∷ store ∷ []) _ (Rebuild places)
    (rebuilds places.roster places.base store operands) (refl, placed_at _ places store says refl refl refl refl)) all
said program words (Serve places addr questions requests) all is =
    let (store, text, says, listens, same, alone, none) = is in
    subst (λ ws. list_all is_operand ws ≡ true → IsCommandLine (program ∷ ws) (Serve places addr questions requests)) (sym same)
    (λ operands. subst (λ r. IsCommandLine (program ∷ codes "serve" ∷ places.roster ∷ places.base ∷ store ∷ text ∷ []) (Serve places addr questions r))
    (sym none)
    (subst (λ q. IsCommandLine (program ∷ codes "serve" ∷ places.roster ∷ places.base ∷ store ∷ text ∷ []) (Serve places addr q None)) (sym alone)
    (line program (codes "serve") (nth 7) (places.roster ∷ places.base ∷ store ∷ text ∷ []) _ (Serve places addr None None)
    (serves places.roster places.base store text operands)
    (refl, placed_at _ places store says refl refl refl refl, (text, refl, listens), refl, refl)))) all
