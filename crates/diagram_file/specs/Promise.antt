-- What `read_diagram` promises for every input: its whole answer, and what the three lent lists hold afterwards. Assumes
-- nothing.
use Rattle.std.specs.Prelude.{◌≡◌, List, [], ◌∷◌, ℕ, length, get_or}
use Rattle.std.proofs.Common.{ap}
use Rattle.lists.specs.Buffer.{over}
use Rattle.refusal.specs.Rules.{Rule}
use Rattle.refusal.specs.Said.{Said, refused, result_of}
use Rattle.refusal.specs.Answered.{AnsweredBy, answered_once}
use Rattle.refusal.proofs.SaidLaws.{refused_one}
use Rattle.diagram.specs.Lent.{Lent, lent}
use Rattle.diagram_file.specs.File.{option_count, node_count, edge_count, file_diagram}
use Rattle.diagram_file.specs.Rules.{file_rules}
use Rattle.diagram_file.specs.declared.Sizes.{Sizes}
use Rattle.diagram_file.specs.declared.FileRead.{FileRead}
use Rattle.diagram_file.specs.declared.FileRead.TheVariants.{Read, Refused}
use Rattle.diagram_file.specs.declared.FileAnswer.{FileAnswer}

-- how many options, nodes and edges the file has
abbrev pub sizes : ℕ → ℕ → ℕ → Sizes
sizes n s e = record { options = n; nodes = s; edges = e }

-- as a result's values
abbrev pub sizes_said : Sizes → List ℕ
sizes_said s = s.options ∷ s.nodes ∷ s.edges ∷ []

-- the number and the values of each case
abbrev pub file_said : FileRead → Said
file_said (Read s) = result_of (sizes_said s)
file_said (Refused r) = refused r

abbrev pub sizes_of : List ℕ → Sizes
sizes_of text = sizes (option_count text) (node_count text) (edge_count text)

-- how much room three lent lists have
abbrev pub room_of : Lent → Sizes
room_of d = sizes (length d.domains) (length d.layers) (length d.targets)

-- three lent lists after a diagram's were written at their fronts
abbrev pub over_lent : Lent → Lent → Lent
over_lent d before = lent (over d.domains before.domains) (over d.layers before.layers) (over d.targets before.targets)

-- the answer is the first refusal of the rules that is due, and the lists are kept; or else the file's diagram stands at the
-- fronts of the lists, the rest of them is kept, and the answer gives its sizes
abbrev pub FileBy : List Rule → List ℕ → Lent → FileAnswer → Lent → Type 0
FileBy rules text before answer after = AnsweredBy file_said rules (sizes_said (sizes_of text)) (over_lent (file_diagram text) before) before answer.outcome after

-- there is room for as much as the lists hold
abbrev pub FilePromise : List ℕ → Lent → FileAnswer → Lent → Type 0
FilePromise text before = FileBy (file_rules text (room_of before)) text before

pub sizes_same : (n s e n' s' e' : ℕ) → n ≡ n' → s ≡ s' → e ≡ e' → sizes n s e ≡ sizes n' s' e'
sizes_same n s e n' s' e' p q r = rw (p, q, r)

value : ℕ → Said → ℕ
value k s = get_or s.values k 0

-- no two cases say the same
pub file_said_once : (a b : FileRead) → file_said a ≡ file_said b → a ≡ b
unfolding value
file_said_once (Read s) (Read t) p = ap Read (sizes_same _ _ _ _ _ _ (ap (value 0) p) (ap (value 1) p) (ap (value 2) p))
file_said_once (Read s) (Refused r) p = let q = ap (λ (s : Said). s.values) p in cc
file_said_once (Refused r) (Read s) p = let q = ap (λ (s : Said). s.values) p in cc
file_said_once (Refused r) (Refused s) p = ap Refused (refused_one r s p)

-- any two outcomes that the promise allows are equal: the answers, and what the lists hold
pub file_one_outcome : (text : List ℕ) (before : Lent) (a b : FileAnswer) (after after' : Lent) → FilePromise text before a after → FilePromise text before b after' → (a ≡ b) × (after ≡ after')
file_one_outcome text before a b after after' p q = let w = answered_once file_said_once p q in (ap (λ (o : FileRead). record { outcome = o }) w.0, w.1)
