-- "Where an answer is an enum, a definition gives, for each of its cases, this paper's number and values."
use Rattle.std.specs.Prelude.{ℕ, Result, Ok, Err}
use Rattle.refusal.specs.declared.Fault.{Fault}
use Rattle.refusal.specs.declared.Fault.TheVariants.{Counts, Cells, Forms, Twice, Name}
use Rattle.refusal.specs.declared.Refusal.{Refusal}
use Rattle.refusal.specs.declared.Refusal.TheVariants.{Length, Edition, Sizes, Contents, Rule, Cycle, Unfit, NoRule, NotWaiting, HeldBack, Posting, Endless, Short}
use Rattle.refusal.specs.Answer.{Answer}

-- "rule by rule 5 to 9"
abbrev pub fault_number : Fault → ℕ
fault_number Counts = 5
fault_number Cells = 6
fault_number Forms = 7
fault_number Twice = 8
fault_number Name = 9

-- the paper's number of each refusal
abbrev pub number_of : Refusal → ℕ
number_of Length = 1
number_of Edition = 2
number_of Sizes = 3
number_of Contents = 4
number_of (Rule fault rule) = fault_number fault
number_of Cycle = 10
number_of Unfit = 11
number_of NoRule = 12
number_of NotWaiting = 13
number_of HeldBack = 14
number_of Posting = 16
number_of Endless = 17
number_of Short = 18

-- "with its place: the rule number for 5 to 9, else 255"
abbrev pub place_of : Refusal → ℕ
place_of (Rule fault rule) = rule
place_of other = 255

-- the paper's number of what is wrong with a rule, 0 where nothing is
abbrev pub fault_of : {A : Type 0} → Result A Fault → ℕ
fault_of (Ok x) = 0
fault_of (Err f) = fault_number f

-- the paper's answer of a call: "0 | done", "else 255"
abbrev pub answer_of : {A : Type 0} → Result A Refusal → Answer
answer_of (Ok x) = record { number = 0; place = 255 }
answer_of (Err e) = record { number = number_of e; place = place_of e }
