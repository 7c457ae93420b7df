-- `edge_writer::edge_words` meets its contract: T2, T3, T4 and T5, word by word. Assumes nothing.
use Rattle.lists.proofs.SignedLaws.{as_word, minus_back}
use Rattle.encoding.proofs.ClauseLaws as laws
use Rattle.edge_writer.proofs.edge_words.Goals as goal

pub returns : goal.returns
returns c =
    let a = c.args in
    let h = c.requires.in_words in
    laws.edge_words a.edge a.node a.target a.value (minus_back _ h.0) (as_word _ h.1) (as_word _ h.2) (as_word _ h.3) (minus_back _ h.2) (minus_back _ h.3) (as_word _ h.0)
