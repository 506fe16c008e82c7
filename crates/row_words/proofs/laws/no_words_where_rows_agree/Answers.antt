use Rattle.row_words.proofs.Agreements.{from_agree, to_agree}
use Rattle.row_words.proofs.laws.no_words_where_rows_agree.Goals as goal

pub returns : goal.returns
returns c = λ rows are. (to_agree rows are, from_agree rows)
