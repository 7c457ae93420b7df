-- What a token is, for variables up to v. Assumes nothing.
use Rattle.std.specs.Prelude.{Bool, cond, Option, Some, None, List, ℕ, ◌+◌, ltb, eqb, length, drop, Ok, Err, Result}
use Rattle.lists.specs.Signed.{is_zero, beyond}
use Rattle.decimal.specs.declared.Reading.{Reading}
use Rattle.refusal.specs.Rules.{refusal}
use Rattle.refusal.specs.declared.Refusal.{Refusal}
use Rattle.dimacs.specs.Tokens.{lead, ended, formed, word_of}
use Rattle.token.specs.declared.Word.{Word}

-- it is well formed or not (18), beyond v or not (14), and 0 or not; where it begins, and the place past its last byte
abbrev pub judged_as : Bool → Bool → Bool → ℕ → ℕ → Result Word Refusal
judged_as good far nought at end = cond good (cond far (Err (refusal 14 at)) (Ok (record { closes = nought; end = end }))) (Err (refusal 18 at))

-- what `judge_token` promises for every text, every place and every V: the token that begins there, if one does
abbrev pub token_judged : ℕ → List ℕ → ℕ → Result Word Refusal
token_judged v text i = judged_as (formed (lead (drop i text))) (beyond v (word_of (lead (drop i text)))) (is_zero (word_of (lead (drop i text)))) i (i + length (lead (drop i text)))

-- the same of what was read, as a token's that begins at i
abbrev pub read_judged : ℕ → List ℕ → ℕ → Option Reading → Result Word Refusal
read_judged v text i None = Err (refusal 18 i)
read_judged v text i (Some r) = judged_as (ended (drop r.end text)) (ltb v r.value) (eqb r.value 0) i r.end
