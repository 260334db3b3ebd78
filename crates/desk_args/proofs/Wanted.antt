-- A complete command has a value for each argument that the command of its name wants.
use Rattle.std.specs.Prelude.{◌≡◌, List, Some, codes, true, false, if◌then◌else◌}
use Rattle.std.specs.Str.{bytes_eq}
use Rattle.std.proofs.Common.{inl, inr, subst, sym, ◌∙◌, true≢false}
use Rattle.std.proofs.lemmas.Slice.Eq.{bytes_eq-Decides}
use Rattle.clap.specs.Words.{Row, Text}
use Rattle.desk_args.specs.CommandLine.{HaveSome, HasAllValues, beyond_args, check_args, decide_args, desk_args, place_args}

abbrev pub wants : Text → List Text
wants name =
    if bytes_eq name (codes "check") then check_args
    else (if bytes_eq name (codes "decide") then decide_args
    else (if bytes_eq name (codes "beyond") then beyond_args
    else (if bytes_eq name (codes "deliver") then desk_args (codes "RELAY")
    else (if bytes_eq name (codes "print") then desk_args (codes "HOST")
    else (if bytes_eq name (codes "review") then desk_args (codes "AT")
    else (if bytes_eq name (codes "rebuild") then place_args
    else desk_args (codes "ADDR")))))))

as_named : (name command : Text) (rows : List Row) → name ≡ command → HaveSome (wants command) rows → HaveSome (wants name) rows
as_named name command rows is have = subst (λ (n : Text). HaveSome (wants n) rows) (sym is) have

have_wanted : (name : Text) (rows : List Row) → HasAllValues (Some (name, rows)) → HaveSome (wants name) rows
have_wanted name rows (inl p) = as_named name (codes "check") rows p.0 p.1
have_wanted name rows (inr (inl p)) = as_named name (codes "decide") rows p.0 p.1
have_wanted name rows (inr (inr (inl p))) = as_named name (codes "beyond") rows p.0 p.1
have_wanted name rows (inr (inr (inr (inl p)))) = as_named name (codes "deliver") rows p.0 p.1
have_wanted name rows (inr (inr (inr (inr (inl p))))) = as_named name (codes "print") rows p.0 p.1
have_wanted name rows (inr (inr (inr (inr (inr (inl p)))))) = as_named name (codes "review") rows p.0 p.1
have_wanted name rows (inr (inr (inr (inr (inr (inr (inl p))))))) = as_named name (codes "rebuild") rows p.0 p.1
have_wanted name rows (inr (inr (inr (inr (inr (inr (inr p))))))) = as_named name (codes "serve") rows p.0 p.1

-- what the command of this name wants
pub wanted_at : (command name : Text) (rows : List Row) → command ≡ name → HasAllValues (Some (name, rows)) → HaveSome (wants command) rows
wanted_at command name rows same complete = subst (λ (n : Text). HaveSome (wants n) rows) (sym same) (have_wanted name rows complete)

-- a name that is compared with a command and found equal
pub named : (command name : Text) → bytes_eq name command ≡ true → command ≡ name
named command name same = sym ((bytes_eq-Decides name command).0 same)

other : (name command : Text) → bytes_eq name command ≡ false → name ≡ command → ⊥
other name command differs is = true≢false (sym ((bytes_eq-Decides name command).1 is) ∙ differs)

-- a command that is none of the others is `serve`
pub is_serve : (name : Text) (rows : List Row) → HasAllValues (Some (name, rows))
    → bytes_eq name (codes "check") ≡ false → bytes_eq name (codes "decide") ≡ false → bytes_eq name (codes "beyond") ≡ false
    → bytes_eq name (codes "deliver") ≡ false → bytes_eq name (codes "print") ≡ false → bytes_eq name (codes "review") ≡ false
    → bytes_eq name (codes "rebuild") ≡ false
    → codes "serve" ≡ name
is_serve name rows (inl p) check decide beyond deliver print review rebuild = absurd (other name (codes "check") check p.0)
is_serve name rows (inr (inl p)) check decide beyond deliver print review rebuild = absurd (other name (codes "decide") decide p.0)
is_serve name rows (inr (inr (inl p))) check decide beyond deliver print review rebuild = absurd (other name (codes "beyond") beyond p.0)
is_serve name rows (inr (inr (inr (inl p)))) check decide beyond deliver print review rebuild = absurd (other name (codes "deliver") deliver p.0)
is_serve name rows (inr (inr (inr (inr (inl p))))) check decide beyond deliver print review rebuild = absurd (other name (codes "print") print p.0)
is_serve name rows (inr (inr (inr (inr (inr (inl p)))))) check decide beyond deliver print review rebuild = absurd (other name (codes "review") review p.0)
is_serve name rows (inr (inr (inr (inr (inr (inr (inl p))))))) check decide beyond deliver print review rebuild =
    absurd (other name (codes "rebuild") rebuild p.0)
is_serve name rows (inr (inr (inr (inr (inr (inr (inr p))))))) check decide beyond deliver print review rebuild = sym p.0
