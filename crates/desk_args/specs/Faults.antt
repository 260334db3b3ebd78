-- Why the command line says nothing to do.
use Rattle.sudo_words.specs.declared.fault.WordFault.{WordFault}
use Rattle.sudo_words.specs.declared.fault.WordFault.TheVariants as word
use Rattle.desk_args.specs.declared.fault.JobFault.{JobFault}
use Rattle.desk_args.specs.declared.fault.JobFault.TheVariants.{BadWord, NoMemory, Usage}

-- the fault of a word, as a fault of the line
abbrev pub of_word : WordFault → JobFault
of_word word.BadWord = BadWord
of_word word.NoMemory = NoMemory

-- the line is refused as a whole, by clap
abbrev pub IsUsage : JobFault → Type 0
IsUsage BadWord = ⊥
IsUsage NoMemory = ⊥
IsUsage (Usage error) = Unit {0}
