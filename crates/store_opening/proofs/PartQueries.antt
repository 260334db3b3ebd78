-- What the statements that read a desk's tables mean, for any schema that finds the tables by name.
use Rattle.std.proofs.Common.{None, Some, pos, negsuc, true, false, cond, ◌≡◌, ◌+◌, List, [], ◌∷◌, ◌++◌, map, ℕ, Ok, codes, refl, ap, subst, ◌∙◌}
use Rattle.std.specs.List.{position_from}
use Rattle.sqlite.specs.declared.types.Value.TheVariants.{Int}
use Rattle.sqlite.specs.Term.{Term, lit, col}
use Rattle.sqlite.specs.Query.{Query, inner, end}
use Rattle.sqlite.specs.Command.TheVariants as command
use Rattle.sqlite.specs.Schema.{Schema}
use Rattle.sqlite.specs.Table.{Table}
use Rattle.sqlite_tied.specs.Compute.{everything}
use Rattle.sqlite_schema.specs.declared.schema.Column.{Column}
use Rattle.sqlite_schema.specs.Names.{column_named, same_name}
use Rattle.sqlite_schema.specs.declared.schema.Kind.TheVariants as kind
use Rattle.sqlite_resolve.specs.declared.state.State.{State}
use Rattle.sqlite_resolve.specs.declared.scope.Output.{Output}
use Rattle.sqlite_resolve.specs.Scope.{Name}
use Rattle.sqlite_resolve.specs.Select.{outermost}
use Rattle.sqlite_resolve.specs.Expr.{lower}
use Rattle.sqlite_resolve.specs.Program.{program}
use Rattle.sqlite_ast.specs.declared.Shown.{Shown as Written}
use Rattle.sqlite_ast.specs.declared.Select.{out-Select}
use Rattle.sqlite_ast.specs.declared.Core.{out-Core}
use Rattle.store_tables.specs.DeskTables.{column_of, keyed, names_at, parked_at, verdicts}
use Rattle.store_tables.specs.Stored.{Finds}
use Rattle.store_tables.proofs.Selects.{IsSimple, begun, draft_of, level_at, select_is}
use Rattle.store_tables.proofs.Layers.{result_one}
use Rattle.store_tables.proofs.QueriesOf.{IsColumn, Means, after_column, column_shown, list_means, means, roster_means, roster_names, shown_column}
use Rattle.store_schema.specs.declared.part.DeskPart.{DeskPart}
use Rattle.store_schema.specs.declared.part.DeskPart.TheVariants.{Desk, Messages, Names, Marks, Verdicts, Parked}
use Rattle.store_schema.specs.Parts.{marks, names_of}
use Rattle.store_schema.specs.Shapes.{FindsPart}
use Rattle.store_opening.specs.Statements.{select_of}
use Rattle.store_opening.proofs.Rowids.{any_rowid_output, any_rowid_shown, after_rowid, result_five, result_four, result_six}
use Rattle.store_opening.proofs.Rowids.{rowid_name, rowid_output, rowid_shown}

-- all rows of the table in this tree
abbrev pub showing : ℕ → List Term → Query
showing tree project = record {
  from = inner tree end;
  filter = [];
  group = None;
  project = project;
  distinct = false;
  collations = [];
  order = [];
  limit = lit (Int (negsuc 0));
  offset = lit (Int (pos 0));
}

abbrev pub project_of : DeskPart → List Term
project_of Desk = col 1 0 ∷ col 1 2 ∷ col 1 3 ∷ []
project_of Messages = col 1 1 ∷ []
project_of Names = col 1 0 ∷ col 1 1 ∷ col 1 2 ∷ col 1 3 ∷ col 1 4 ∷ []
project_of Marks = col 1 0 ∷ []
project_of Verdicts = col 1 0 ∷ col 1 1 ∷ col 1 2 ∷ col 1 3 ∷ col 1 4 ∷ col 1 5 ∷ []
project_of Parked = col 1 0 ∷ col 1 1 ∷ col 1 2 ∷ col 1 3 ∷ []

abbrev number : List ℕ → Column
number name = column_of name kind.Integer true

abbrev text : List ℕ → Column
text name = column_of name kind.Text true

-- ---- the texts

-- the statement shows the rowid and these four columns of the table
pub record ShowsFive (sql table : Name) : Type 0 where
  it : IsSimple sql table
  a : Written
  b : Written
  c : Written
  d : Written
  e : Written
  are : (out-Core (out-Select it.sel).first).shown ≡ a ∷ b ∷ c ∷ d ∷ e ∷ []
  a_is : IsColumn a rowid_name
  b_is : IsColumn b (codes "asker")
  c_is : IsColumn c (codes "no")
  d_is : IsColumn d (codes "body")
  e_is : IsColumn e (codes "disputed")

names_parts : ShowsFive (select_of Names) (codes "names")
unfolding everything
names_parts = record {
  it = record {
    p = _;
    sel = _;
    src = _;
    parsed = refl;
    statement = refl;
    formats = refl;
    alone = record { with' = refl; others = refl; order = refl; limit = refl; offset = refl };
    from = refl;
    origin = refl;
    alias = refl;
    none = refl;
    on = refl;
    left = refl;
    distinct = refl;
    filter = refl;
    group = refl;
    having = refl;
  };
  a = _;
  b = _;
  c = _;
  d = _;
  e = _;
  are = refl;
  a_is = record { e = _; text = _; one = refl; expr = refl };
  b_is = record { e = _; text = _; one = refl; expr = refl };
  c_is = record { e = _; text = _; one = refl; expr = refl };
  d_is = record { e = _; text = _; one = refl; expr = refl };
  e_is = record { e = _; text = _; one = refl; expr = refl };
}

-- the statement shows the rowid and these five columns of the table
pub record ShowsSix (sql table : Name) : Type 0 where
  it : IsSimple sql table
  a : Written
  b : Written
  c : Written
  d : Written
  e : Written
  f : Written
  are : (out-Core (out-Select it.sel).first).shown ≡ a ∷ b ∷ c ∷ d ∷ e ∷ f ∷ []
  a_is : IsColumn a rowid_name
  b_is : IsColumn b (codes "asker")
  c_is : IsColumn c (codes "no")
  d_is : IsColumn d (codes "person")
  e_is : IsColumn e (codes "kind")
  f_is : IsColumn f (codes "at")

verdicts_parts : ShowsSix (select_of Verdicts) (codes "verdicts")
unfolding everything
verdicts_parts = record {
  it = record {
    p = _;
    sel = _;
    src = _;
    parsed = refl;
    statement = refl;
    formats = refl;
    alone = record { with' = refl; others = refl; order = refl; limit = refl; offset = refl };
    from = refl;
    origin = refl;
    alias = refl;
    none = refl;
    on = refl;
    left = refl;
    distinct = refl;
    filter = refl;
    group = refl;
    having = refl;
  };
  a = _;
  b = _;
  c = _;
  d = _;
  e = _;
  f = _;
  are = refl;
  a_is = record { e = _; text = _; one = refl; expr = refl };
  b_is = record { e = _; text = _; one = refl; expr = refl };
  c_is = record { e = _; text = _; one = refl; expr = refl };
  d_is = record { e = _; text = _; one = refl; expr = refl };
  e_is = record { e = _; text = _; one = refl; expr = refl };
  f_is = record { e = _; text = _; one = refl; expr = refl };
}

-- the statement shows the rowid alone
pub record ShowsRowid (sql table : Name) : Type 0 where
  it : IsSimple sql table
  a : Written
  are : (out-Core (out-Select it.sel).first).shown ≡ a ∷ []
  a_is : IsColumn a rowid_name

marks_parts : ShowsRowid (select_of Marks) (codes "marks")
unfolding everything
marks_parts = record {
  it = record {
    p = _;
    sel = _;
    src = _;
    parsed = refl;
    statement = refl;
    formats = refl;
    alone = record { with' = refl; others = refl; order = refl; limit = refl; offset = refl };
    from = refl;
    origin = refl;
    alias = refl;
    none = refl;
    on = refl;
    left = refl;
    distinct = refl;
    filter = refl;
    group = refl;
    having = refl;
  };
  a = _;
  are = refl;
  a_is = record { e = _; text = _; one = refl; expr = refl };
}

-- the statement shows the rowid and these three columns of the table
pub record ShowsFour (sql table : Name) : Type 0 where
  it : IsSimple sql table
  a : Written
  b : Written
  c : Written
  d : Written
  are : (out-Core (out-Select it.sel).first).shown ≡ a ∷ b ∷ c ∷ d ∷ []
  a_is : IsColumn a rowid_name
  b_is : IsColumn b (codes "body")
  c_is : IsColumn c (codes "asker")
  d_is : IsColumn d (codes "no")

parked_parts : ShowsFour (select_of Parked) (codes "parked")
unfolding everything
parked_parts = record {
  it = record {
    p = _;
    sel = _;
    src = _;
    parsed = refl;
    statement = refl;
    formats = refl;
    alone = record { with' = refl; others = refl; order = refl; limit = refl; offset = refl };
    from = refl;
    origin = refl;
    alias = refl;
    none = refl;
    on = refl;
    left = refl;
    distinct = refl;
    filter = refl;
    group = refl;
    having = refl;
  };
  a = _;
  b = _;
  c = _;
  d = _;
  are = refl;
  a_is = record { e = _; text = _; one = refl; expr = refl };
  b_is = record { e = _; text = _; one = refl; expr = refl };
  c_is = record { e = _; text = _; one = refl; expr = refl };
  d_is = record { e = _; text = _; one = refl; expr = refl };
}

-- ---- what they mean

module _ (s : Schema) (at tree : ℕ) (parts : ShowsFive (select_of Names) (codes "names")) (found : Finds s (codes "names") at (names_at tree)) where
  abbrev five_t : Table
  five_t = names_at tree

  abbrev five_c1 : Column
  five_c1 = text (codes "asker")

  abbrev five_c2 : Column
  five_c2 = number (codes "no")

  abbrev five_c3 : Column
  five_c3 = text (codes "body")

  abbrev five_c4 : Column
  five_c4 = number (codes "disputed")

  -- the columns that were shown, and the state after them
  abbrev five_d1 : List Output
  five_d1 = rowid_output ∷ []

  abbrev five_d2 : List Output
  five_d2 = five_d1 ++ shown_column five_t 0 five_c1 ∷ []

  abbrev five_d3 : List Output
  five_d3 = five_d2 ++ shown_column five_t 1 five_c2 ∷ []

  abbrev five_d4 : List Output
  five_d4 = five_d3 ++ shown_column five_t 2 five_c3 ∷ []

  abbrev five_d5 : List Output
  five_d5 = five_d4 ++ shown_column five_t 3 five_c4 ∷ []

  abbrev five_s1 : State
  five_s1 = after_rowid begun

  abbrev five_s2 : State
  five_s2 = after_column five_t 0 five_c1 five_s1

  abbrev five_s3 : State
  five_s3 = after_column five_t 1 five_c2 five_s2

  abbrev five_s4 : State
  five_s4 = after_column five_t 2 five_c3 five_s3

  abbrev five_s5 : State
  five_s5 = after_column five_t 3 five_c4 five_s4

  five_typed : program s [] (draft_of tree five_d5) ≡ Ok (record { lets = []; body = showing tree (project_of Names) })
  unfolding program
  five_typed = rw (found.stored, found.by_tree) refl

  pub five_means :
      Means s (select_of Names) (command.Select (record { lets = []; body = showing tree (project_of Names) }) (map (λ (o : Output). o.name) five_d5))
  unfolding same_name
  five_means =
      let core = (out-Select parts.it.sel).first in
      let ra = rowid_shown s (codes "names") at five_t parts.a [] begun parts.a_is refl found.has refl refl found.stored in
      let rb = column_shown s (codes "names") (codes "asker") at 0 five_t five_c1 parts.b five_d1 five_s1 parts.b_is refl found.has refl refl in
      let rc = column_shown s (codes "names") (codes "no") at 1 five_t five_c2 parts.c five_d2 five_s2 parts.c_is refl found.has refl refl in
      let rd = column_shown s (codes "names") (codes "body") at 2 five_t five_c3 parts.d five_d3 five_s3 parts.d_is refl found.has refl refl in
      let re = column_shown s (codes "names") (codes "disputed") at 3 five_t five_c4 parts.e five_d4 five_s4 parts.e_is refl found.has refl refl in
      let all = result_five lower (outermost s)
      (level_at (codes "names") at) core parts.a parts.b parts.c parts.d parts.e _ _ _ _ _ begun _ _ _ _ _ parts.are ra rb rc rd re in
      means s (select_of Names) _
      (select_is s (select_of Names) (codes "names") parts.it at five_t five_d5 _ _ found.named found.has all refl refl five_typed) refl refl

module _ (s : Schema) (at tree : ℕ) (sql table : Name) (key : List ℕ) (parts : ShowsSix sql table)
    (found : Finds s table at (record (keyed table verdicts.columns key) { tree = tree })) where
  abbrev six_t : Table
  six_t = record (keyed table verdicts.columns key) { tree = tree }

  abbrev six_c1 : Column
  six_c1 = text (codes "asker")

  abbrev six_c2 : Column
  six_c2 = number (codes "no")

  abbrev six_c3 : Column
  six_c3 = text (codes "person")

  abbrev six_c4 : Column
  six_c4 = text (codes "kind")

  abbrev six_c5 : Column
  six_c5 = number (codes "at")

  -- the columns that were shown, and the state after them
  abbrev six_d1 : List Output
  six_d1 = rowid_output ∷ []

  abbrev six_d2 : List Output
  six_d2 = six_d1 ++ shown_column six_t 0 six_c1 ∷ []

  abbrev six_d3 : List Output
  six_d3 = six_d2 ++ shown_column six_t 1 six_c2 ∷ []

  abbrev six_d4 : List Output
  six_d4 = six_d3 ++ shown_column six_t 2 six_c3 ∷ []

  abbrev six_d5 : List Output
  six_d5 = six_d4 ++ shown_column six_t 3 six_c4 ∷ []

  abbrev six_d6 : List Output
  six_d6 = six_d5 ++ shown_column six_t 4 six_c5 ∷ []

  abbrev six_s1 : State
  six_s1 = after_rowid begun

  abbrev six_s2 : State
  six_s2 = after_column six_t 0 six_c1 six_s1

  abbrev six_s3 : State
  six_s3 = after_column six_t 1 six_c2 six_s2

  abbrev six_s4 : State
  six_s4 = after_column six_t 2 six_c3 six_s3

  abbrev six_s5 : State
  six_s5 = after_column six_t 3 six_c4 six_s4

  abbrev six_s6 : State
  six_s6 = after_column six_t 4 six_c5 six_s5

  six_typed : program s [] (draft_of tree six_d6) ≡ Ok (record { lets = []; body = showing tree (project_of Verdicts) })
  unfolding program
  six_typed = rw (found.stored, found.by_tree) refl

  pub six_means : Means s sql (command.Select (record { lets = []; body = showing tree (project_of Verdicts) }) (map (λ (o : Output). o.name) six_d6))
  unfolding same_name
  six_means =
      let core = (out-Select parts.it.sel).first in
      let ra = rowid_shown s table at six_t parts.a [] begun parts.a_is refl found.has refl refl found.stored in
      let rb = column_shown s table (codes "asker") at 0 six_t six_c1 parts.b six_d1 six_s1 parts.b_is refl found.has refl refl in
      let rc = column_shown s table (codes "no") at 1 six_t six_c2 parts.c six_d2 six_s2 parts.c_is refl found.has refl refl in
      let rd = column_shown s table (codes "person") at 2 six_t six_c3 parts.d six_d3 six_s3 parts.d_is refl found.has refl refl in
      let re = column_shown s table (codes "kind") at 3 six_t six_c4 parts.e six_d4 six_s4 parts.e_is refl found.has refl refl in
      let rf = column_shown s table (codes "at") at 4 six_t six_c5 parts.f six_d5 six_s5 parts.f_is refl found.has refl refl in
      let all = result_six lower (outermost s)
      (level_at table at) core parts.a parts.b parts.c parts.d parts.e parts.f _ _ _ _ _ _ begun _ _ _ _ _ _ parts.are ra rb rc rd re rf in
      means s sql _ (select_is s sql table parts.it at six_t six_d6 _ _ found.named found.has all refl refl six_typed) refl refl

module _ (s : Schema) (at tree : ℕ) (parts : ShowsFour (select_of Parked) (codes "parked")) (found : Finds s (codes "parked") at (parked_at tree)) where
  abbrev four_t : Table
  four_t = parked_at tree

  abbrev four_c1 : Column
  four_c1 = text (codes "body")

  abbrev four_c2 : Column
  four_c2 = text (codes "asker")

  abbrev four_c3 : Column
  four_c3 = number (codes "no")

  -- the columns that were shown, and the state after them
  abbrev four_d1 : List Output
  four_d1 = rowid_output ∷ []

  abbrev four_d2 : List Output
  four_d2 = four_d1 ++ shown_column four_t 0 four_c1 ∷ []

  abbrev four_d3 : List Output
  four_d3 = four_d2 ++ shown_column four_t 1 four_c2 ∷ []

  abbrev four_d4 : List Output
  four_d4 = four_d3 ++ shown_column four_t 2 four_c3 ∷ []

  abbrev four_s1 : State
  four_s1 = after_rowid begun

  abbrev four_s2 : State
  four_s2 = after_column four_t 0 four_c1 four_s1

  abbrev four_s3 : State
  four_s3 = after_column four_t 1 four_c2 four_s2

  abbrev four_s4 : State
  four_s4 = after_column four_t 2 four_c3 four_s3

  four_typed : program s [] (draft_of tree four_d4) ≡ Ok (record { lets = []; body = showing tree (project_of Parked) })
  unfolding program
  four_typed = rw (found.stored, found.by_tree) refl

  pub four_means :
      Means s (select_of Parked) (command.Select (record { lets = []; body = showing tree (project_of Parked) }) (map (λ (o : Output). o.name) four_d4))
  unfolding same_name
  four_means =
      let core = (out-Select parts.it.sel).first in
      let ra = rowid_shown s (codes "parked") at four_t parts.a [] begun parts.a_is refl found.has refl refl found.stored in
      let rb = column_shown s (codes "parked") (codes "body") at 0 four_t four_c1 parts.b four_d1 four_s1 parts.b_is refl found.has refl refl in
      let rc = column_shown s (codes "parked") (codes "asker") at 1 four_t four_c2 parts.c four_d2 four_s2 parts.c_is refl found.has refl refl in
      let rd = column_shown s (codes "parked") (codes "no") at 2 four_t four_c3 parts.d four_d3 four_s3 parts.d_is refl found.has refl refl in
      let all =
      result_four lower (outermost s) (level_at (codes "parked") at) core parts.a parts.b parts.c parts.d _ _ _ _ begun _ _ _ _ parts.are ra rb rc rd in
      means s (select_of Parked) _
      (select_is s (select_of Parked) (codes "parked") parts.it at four_t four_d4 _ _ found.named found.has all refl refl four_typed) refl refl

-- ---- `marks`, of which the names of the columns are known

by_names : (name : Name) (i : ℕ) (cs : List Column)
    → position_from (λ (c : Column). same_name c.name name) i cs ≡ position_from (λ n. same_name n name) i (names_of cs)
by_names name i [] = refl
by_names name i (c ∷ cs) = ap (cond (same_name c.name name) (Some i)) (by_names name (i + 1) cs)

unnamed : position_from (λ n. same_name n rowid_name) 0 (names_of marks.columns) ≡ None
unfolding same_name
unnamed = refl

module _ (s : Schema) (at : ℕ) (t : Table) (parts : ShowsRowid (select_of Marks) (codes "marks"))
    (found : Finds s (codes "marks") at t) (columns : names_of t.columns ≡ names_of marks.columns) where
  -- no column is called like the rowid
  no_rowid : column_named t rowid_name ≡ None
  no_rowid = by_names rowid_name 0 t.columns ∙ ap (position_from (λ n. same_name n rowid_name) 0) columns ∙ unnamed

  abbrev rowid_shows : List Output
  rowid_shows = any_rowid_output t ∷ []

  rowid_typed : program s [] (draft_of t.tree rowid_shows) ≡ Ok (record { lets = []; body = showing t.tree (project_of Marks) })
  unfolding program
  rowid_typed = rw (found.stored, found.by_tree) refl

  pub rowid_means :
      Means s (select_of Marks) (command.Select (record { lets = []; body = showing t.tree (project_of Marks) }) (map (λ (o : Output). o.name) rowid_shows))
  rowid_means =
      let core = (out-Select parts.it.sel).first in
      let a = any_rowid_shown s (codes "marks") at t parts.a [] begun parts.a_is refl found.has no_rowid found.stored in
      let all = result_one lower (outermost s) (level_at (codes "marks") at) core parts.a _ begun _ parts.are a in
      means s (select_of Marks) _
      (select_is s (select_of Marks) (codes "marks") parts.it at t rowid_shows _ _ found.named found.has all refl refl rowid_typed) refl refl

-- what the part's statement means
pub means_of : (s : Schema) (p : DeskPart) (it : FindsPart s p)
    → (names : List Name) × Means s (select_of p) (command.Select (record { lets = []; body = showing it.table.tree (project_of p) }) names)
means_of s Desk it = (roster_names, roster_means s it.at it.table.tree (subst (Finds s (codes "desk") it.at) it.is it.finds))
means_of s Messages it = (codes "body" ∷ [], list_means s it.at it.table.tree (subst (Finds s (codes "messages") it.at) it.is it.finds))
means_of s Names it = (_, five_means s it.at it.table.tree names_parts (subst (Finds s (codes "names") it.at) it.is it.finds))
means_of s Marks it = (_, rowid_means s it.at it.table marks_parts it.finds it.is.1)
means_of s Verdicts it = (
  _,
  six_means s it.at it.table.tree (select_of Verdicts) (codes "verdicts") (1 ∷ 2 ∷ 3 ∷ 4 ∷ 5 ∷ []) verdicts_parts
      (subst (Finds s (codes "verdicts") it.at) it.is it.finds),
)
means_of s Parked it = (_, four_means s it.at it.table.tree parked_parts (subst (Finds s (codes "parked") it.at) it.is it.finds))
