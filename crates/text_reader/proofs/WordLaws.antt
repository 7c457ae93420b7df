-- The word of a token that is known to be good, as it is read. Assumes nothing.
use mathlib.Core.Path.{◌≡◌, sym, ◌∙◌, subst}
use mathlib.Core.Bool.{Bool, true, false, not}
use mathlib.Core.List.{List}
use Prim.Native.Nat.{ℕ, ◌+◌, ◌≤◌, ◌<◌}
use native.Mathlib.Omega.{arith}
use lib.ListN.{length, get_or, drop}
use borrow.Author.Tests.{le-ltb, ltb-false}
use Rattle.std.specs.Prelude.{Option, Some, IsSome}
use Rattle.decimal.specs.Reading.{digits_at, reading_at}
use Rattle.decimal.specs.declared.Reading.{Reading}
use Rattle.cnf.specs.Clause.{says}
use Rattle.dimacs.specs.Tokens.{is_gap, lead, word_of, Good}
use Rattle.dimacs.proofs.TokenLaws.{TokenAt, minus_token, plain_token, formed_read, formed_ends, formed_value, formed_beyond}

-- what was read of it, m saying whether it begins with a minus
pub record WordRead (text : List ℕ) (i : ℕ) (m : Bool) (r : Reading) : Type 0 where
  pub small : r.value ≤ 1000000
  pub says_word : word_of (lead (drop i text)) ≡ says (not m) r.value
  pub ends_word : r.end ≡ i + length (lead (drop i text))

-- code finds a decimal there, and that is the word's
pub record Found (text : List ℕ) (i : ℕ) (m : Bool) (q : Option Reading) : Type 0 where
  pub some : IsSome q
  pub word : {r : Reading} → q ≡ Some r → WordRead text i m r

word_read : {text : List ℕ} {i : ℕ} {m : Bool} {from : ℕ} → TokenAt text i m from (digits_at text from) → Good 1000000 (lead (drop i text)) → Found text i m (reading_at text from)
word_read {text} {i} {m} {from} k g =
    let e = formed_read k g.is_formed in
    let l = ltb-false 1000000 (digits_at text from).value (sym (formed_beyond k g.is_formed 1000000 (omega arith)) ∙ le-ltb 1000000 _ g.in_range) in
    let w : WordRead text i m (digits_at text from) = record { small = l; says_word = formed_value k g.is_formed (omega arith); ends_word = sym (formed_ends k g.is_formed) } in
    record { some = rw e; word = λ q. let s : digits_at text from ≡ _ = cc in subst (WordRead text i m) s w }

module _ {text : List ℕ} {i : ℕ} (t : (i < length text) × (is_gap (get_or text i 0) ≡ false) × Good 1000000 (lead (drop i text))) where
  pub minus_read : get_or text i 0 ≡ 45 → {q : Option Reading} → q ≡ reading_at text (i + 1) → Found text i true q
  minus_read e r = subst (Found text i true) (sym r) (word_read (minus_token text i t.0 t.1 e) t.2)

  pub plain_read : (get_or text i 0 ≡ 45 → ⊥) → {q : Option Reading} → q ≡ reading_at text i → Found text i false q
  plain_read e r = subst (Found text i false) (sym r) (word_read (plain_token text i t.0 t.1 e) t.2)
