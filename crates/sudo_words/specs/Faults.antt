-- How faults are shown: by their names.
use Rattle.std.specs.Prelude.{ℕ, List, codes}
use Rattle.sudo_words.specs.declared.fault.NoMemory.{NoMemory as OutOfMemory}
use Rattle.sudo_words.specs.declared.fault.WordFault.{WordFault}
use Rattle.sudo_words.specs.declared.fault.WordFault.TheVariants as word
use Rattle.sudo_words.specs.declared.fault.CmndFault.{CmndFault}
use Rattle.sudo_words.specs.declared.fault.CmndFault.TheVariants as cmnd

abbrev pub no_memory_text : OutOfMemory → List ℕ
no_memory_text f = codes "NoMemory"

abbrev pub word_fault_text : WordFault → List ℕ
word_fault_text word.BadWord = codes "BadWord"
word_fault_text word.NoMemory = codes "NoMemory"

abbrev pub cmnd_fault_text : CmndFault → List ℕ
cmnd_fault_text cmnd.BadCmnd = codes "BadCmnd"
cmnd_fault_text cmnd.NoMemory = codes "NoMemory"
