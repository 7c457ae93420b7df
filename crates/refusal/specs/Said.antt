-- What an answer says: the table's number (0 for a result), the refusal's place (0 for a result) and the result's
-- values (none for a refusal). Each answer type has a definition that gives this for each of its cases. And
-- what a lent buffer holds after a verdict. Assumes nothing.
use Rattle.std.specs.Prelude.{List, [], ℕ, Ok, Err, Result}
use Rattle.refusal.specs.Rules.{Verdict}
use Rattle.refusal.specs.declared.Refusal.{Refusal}

pub record Said : Type 0 where
  pub number : ℕ
  pub place : ℕ
  pub values : List ℕ

abbrev pub refused : Refusal → Said
refused r = record { number = r.number; place = r.place; values = [] }

abbrev pub result_of : List ℕ → Said
result_of vs = record { number = 0; place = 0; values = vs }

-- a verdict's refusal, or the result where it passed
abbrev pub saying : Verdict → List ℕ → Said
saying (Ok tt) vs = result_of vs
saying (Err r) vs = refused r

-- what a lent buffer holds afterwards: what is written where the verdict passed, and otherwise what it held before
abbrev pub leaving : {A : Type 0} → Verdict → A → A → A
leaving (Ok tt) written before = written
leaving (Err r) written before = before

-- what a function gives back after a verdict: the refusal, or what is made where it passed
abbrev pub giving : {A : Type 0} → Verdict → A → Result A Refusal
giving (Ok tt) made = Ok made
giving (Err r) made = Err r
