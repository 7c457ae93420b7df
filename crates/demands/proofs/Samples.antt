-- Every entry of the small table of samples holds. Assumes nothing.
use mathlib.Core.Path.{refl}
use Rattle.lists.specs.Upto.{sum_to, up_to, count_to, last_to}
use Rattle.lists.specs.Every.{Each}
use Rattle.lists.specs.First.{first}
use Rattle.lists.specs.Signed.{is_zero, is_negative}
use Rattle.refusal.specs.Rules.{chain}
use Rattle.cnf.specs.Clause.{words}
use Rattle.diagram.specs.Lent.{first_edge, step, walk}
use Rattle.diagram.specs.Numbers.{first_value}
use Rattle.diagram.specs.Rules.{bad_layer, permits, owner, bad_target, option_rules, node_rules, target_rules, check_rules}
use Rattle.clauses.specs.Clauses.{first_helper, clauses}
use Rattle.encoding.specs.Promise.{encode_rules}
use Rattle.naming.specs.Naming.{mark, again, naming_rules}
use Rattle.model.specs.Rules.{unclear, value_of, value_rules, literal_rules, sound_rules, model_rules}
use Rattle.demands.specs.Samples.{Holds, samples}

pub samples_hold : Each Holds samples
unfolding sum_to up_to count_to last_to first is_zero is_negative chain words first_edge step walk first_value bad_layer permits owner bad_target option_rules node_rules target_rules check_rules first_helper clauses encode_rules mark again naming_rules unclear value_of value_rules literal_rules sound_rules model_rules samples
samples_hold = ((refl, refl, refl, refl), (refl, ((refl, refl, refl, refl), ((refl, refl, refl, refl), (refl, (refl, (refl, (refl, ((refl, refl), ((refl, refl), (refl, (refl, (refl, (refl, tt))))))))))))))
