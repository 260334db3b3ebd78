-- Words with `serve` say one job at most.
use Rattle.std.specs.Prelude.{◌≡◌, ℕ, List, Option, Some, true, false, codes, refl}
use Rattle.std.specs.Str.{bytes_eq}
use Rattle.std.proofs.Common.{subst, sym}
use Rattle.clap.specs.Words.{Row, Text}
use Rattle.desk_args.specs.CommandLine.{ArePlaces, HasAddress, HasAddressIfGiven, HasCount, SaysJob}
use Rattle.desk_args.specs.declared.task.Address.{Address}
use Rattle.desk_args.specs.declared.task.Job.{Job}
use Rattle.desk_args.specs.declared.task.Job.TheVariants.{Beyond, Check, Decide, Deliver, Print, Rebuild, Review, Serve}
use Rattle.desk_args.specs.declared.task.Places.{Places}

apart : (name : Text) → bytes_eq name (codes "serve") ≡ false → codes "serve" ≡ name → ⊥
apart name other same =
    let both : true ≡ false = subst (λ (word : Text). bytes_eq word (codes "serve") ≡ false) (sym same) other in
    cc

pub one_service : (rows : List Row) (p : Places) (a : Address) (q : Option Address) (n : Option ℕ) → ((r : Places) → ArePlaces rows r → p ≡ r)
    → ((b : Address) → HasAddress (codes "ADDR") rows b → a ≡ b) → ((b : Option Address) → HasAddressIfGiven (codes "QUESTIONS") rows b → q ≡ b)
    → ((m : Option ℕ) → HasCount (codes "REQUESTS") rows m → n ≡ m)
    → (j : Job) → SaysJob (Some (codes "serve", rows)) j → Serve p a q n ≡ j
one_service rows p a q n places address questions count (Check file) says = absurd (apart (codes "check") refl says.0)
one_service rows p a q n places address questions count (Decide file run) says = absurd (apart (codes "decide") refl says.0)
one_service rows p a q n places address questions count (Beyond x y scope) says = absurd (apart (codes "beyond") refl says.0)
one_service rows p a q n places address questions count (Deliver r relay) says = absurd (apart (codes "deliver") refl says.0)
one_service rows p a q n places address questions count (Print r host after) says = absurd (apart (codes "print") refl says.0)
one_service rows p a q n places address questions count (Review r at) says = absurd (apart (codes "review") refl says.0)
one_service rows p a q n places address questions count (Rebuild r) says = absurd (apart (codes "rebuild") refl says.0)
one_service rows p a q n places address questions count (Serve r b s m) says =
    let (named, are, listens, asks, counts) = says in
    rw (places r are, address b listens, questions s asks, count m counts) refl
