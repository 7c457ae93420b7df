-- How `put_text` comes to its answer: the words are refused; or they are well, and the buffer is too short or not. Assumes
-- nothing.
use Rattle.std.specs.Prelude.{Ok, Err}
use mathlib.Core.Path.{◌≡◌}
use mathlib.Core.List.{List}
use Prim.Native.Nat.{ℕ, ◌≤◌, ◌<◌}
use native.Mathlib.Omega.{arith}
use lib.IntN.{ℤ}
use lib.ListN.{length}
use Rattle.lists.specs.Buffer.{over}
use Rattle.refusal.specs.Rules.{refusal, chain}
use Rattle.refusal.specs.declared.Refusal.{Refusal}
use Rattle.refusal.proofs.RoomLaws.{too_short, long_enough}
use Rattle.cnf.specs.Lent.{word_rules}
use Rattle.dimacs.specs.Text.{text_of}
use Rattle.dimacs.specs.Given.{GivenBy}
use Rattle.dimacs.specs.Write.{write_rules}
use Rattle.dimacs.proofs.VerdictLaws.{by_refusal, by_result, first_refuse, goes_on}
use Rattle.dimacs.proofs.WriteLaws.{room_rules}

module _ (v : ℕ) (ws : List ℤ) (before : List ℕ) where
  pub write_refuses : {r : Refusal} → chain (word_rules v ws) ≡ Err r → GivenBy (write_rules v ws (length before)) (length (text_of v ws)) (over (text_of v ws) before) before (Err r) before
  write_refuses q = first_refuse _ _ before (word_rules v ws) (room_rules v ws (length before)) q

  module _ (q : chain (word_rules v ws) ≡ Ok tt) {n : ℕ} (e : n ≡ length (text_of v ws)) where
    pub write_short : length before < n → GivenBy (write_rules v ws (length before)) (length (text_of v ws)) (over (text_of v ws) before) before (Err (refusal 7 n)) before
    write_short h = goes_on _ _ before (word_rules v ws) (room_rules v ws (length before)) q (rw e (by_refusal _ _ before (too_short (length (text_of v ws)) (length before) (omega (arith, e)))))

    pub write_done : {after : List ℕ} → n ≤ length before → after ≡ over (text_of v ws) before → GivenBy (write_rules v ws (length before)) (length (text_of v ws)) (over (text_of v ws) before) before (Ok n) after
    write_done h b = goes_on _ _ before (word_rules v ws) (room_rules v ws (length before)) q (by_result _ _ before (long_enough (length (text_of v ws)) (length before) (omega (arith, e))) e b)
