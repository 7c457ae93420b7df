-- The small table of samples: a row is what a sample puts in, and the answer that the scope gives. Assumes nothing.
use Rattle.std.specs.Prelude.{◌≡◌, Bool, true, false, List, [], ◌∷◌, ℕ, ℤ, pos, length, Ok, Err}
use Rattle.refusal.specs.Rules.{refusal, chain}
use Rattle.cnf.specs.Clause.{plain, negated, words}
use Rattle.diagram.specs.Lent.{Lent, lent, options}
use Rattle.diagram.specs.Rules.{check_rules}
use Rattle.judge.specs.Promise.{allows_test}
use Rattle.clauses.specs.Clauses.{edition1, last_variable, clauses}
use Rattle.encoding.specs.Promise.{encode_rules}
use Rattle.model.specs.Rules.{build_of, model_rules}

pub data Sample : Type 0 where
  -- in a buffer of just so many words `encode` refuses nothing, and answers that there are so many words, so many clauses, and V
  encodes : Lent → ℕ → ℕ → ℕ → Sample
  -- the diagram's words are these
  lists : Lent → List ℤ → Sample
  -- whether the diagram allows the build
  allows : Lent → List ℕ → Bool → Sample
  -- it is refused, by this number and with this place
  refused : Lent → ℕ → ℕ → Sample
  -- the model reads as this build, where the lent list has room for it
  reads : Lent → List ℤ → List ℕ → Sample
  -- it is refused there, by this number and with this place
  unread : Lent → List ℤ → ℕ → ℕ → Sample

abbrev pub Holds : Sample → Type 0
Holds (encodes d w c v) = (chain (encode_rules edition1 d w) ≡ Ok tt) × (length (words (clauses edition1 d)) ≡ w) × (length (clauses edition1 d) ≡ c) × (last_variable edition1 d ≡ v)
Holds (lists d ws) = words (clauses edition1 d) ≡ ws
Holds (allows d build a) = allows_test d build ≡ a
Holds (refused d n p) = chain (check_rules d) ≡ Err (refusal n p)
Holds (reads d m build) = (chain (model_rules d m edition1 (options d)) ≡ Ok tt) × (build_of d m ≡ build)
Holds (unread d m n p) = chain (model_rules d m edition1 (options d)) ≡ Err (refusal n p)

abbrev pub s1 : Lent
s1 = lent (2 ∷ []) (1 ∷ []) (0 ∷ 1 ∷ [])

abbrev pub s2 : Lent
s2 = lent (1 ∷ []) (1 ∷ []) (1 ∷ [])

abbrev pub s3 : Lent
s3 = lent (2 ∷ 2 ∷ []) (1 ∷ 2 ∷ []) (3 ∷ 0 ∷ 0 ∷ 1 ∷ [])

-- S3 with other targets, and with other domains
abbrev pub s5 : Lent
s5 = lent s3.domains s3.layers (1 ∷ 0 ∷ 0 ∷ 1 ∷ [])

abbrev pub s6 : Lent
s6 = lent (2 ∷ 0 ∷ []) s3.layers s3.targets

-- the words of the listing
abbrev pub s1_words : List ℤ
s1_words =
    plain 1 ∷ plain 2 ∷ pos 0
    ∷ negated 1 ∷ negated 2 ∷ pos 0
    ∷ plain 4 ∷ pos 0
    ∷ negated 3 ∷ pos 0
    ∷ plain 5 ∷ pos 0
    ∷ negated 5 ∷ plain 6 ∷ plain 7 ∷ pos 0
    ∷ negated 6 ∷ plain 5 ∷ pos 0
    ∷ negated 6 ∷ plain 3 ∷ pos 0
    ∷ negated 6 ∷ plain 1 ∷ pos 0
    ∷ negated 3 ∷ negated 1 ∷ plain 6 ∷ pos 0
    ∷ negated 7 ∷ plain 5 ∷ pos 0
    ∷ negated 7 ∷ plain 4 ∷ pos 0
    ∷ negated 7 ∷ plain 2 ∷ pos 0
    ∷ negated 4 ∷ negated 2 ∷ plain 7 ∷ pos 0
    ∷ []

unfoldable pub samples : List Sample
samples =
    -- S1
    encodes s1 42 14 7
    ∷ lists s1 s1_words
    -- S2
    ∷ encodes s2 24 9 5
    -- S3
    ∷ encodes s3 78 25 12
    ∷ allows s3 (0 ∷ 1 ∷ []) true
    ∷ allows s3 (1 ∷ 1 ∷ []) false
    -- S5
    ∷ refused s5 6 0
    -- S6
    ∷ refused s6 2 1
    -- S8
    ∷ reads s1 (negated 1 ∷ plain 2 ∷ []) (1 ∷ [])
    ∷ reads s1 (plain 2 ∷ []) (1 ∷ [])
    ∷ unread s1 (plain 1 ∷ []) 13 0
    ∷ unread s1 [] 12 0
    ∷ unread s1 (plain 1 ∷ plain 2 ∷ []) 12 0
    ∷ unread s1 (plain 2 ∷ negated 2 ∷ []) 11 1
    ∷ []
