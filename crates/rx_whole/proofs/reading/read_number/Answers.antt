use Rattle.rx_whole.specs.Number.{digits_number, num}
use Rattle.rx_whole.proofs.NumberTextLemmas.{num_of_number_text, number_text_of_num}
use Rattle.rx_whole.proofs.ReadingLemmas.{numeral_of_capped}
use Rattle.rx_whole.proofs.reading.read_number.Goals as goal

pub returns-clause-numeral : goal.returns-clause-numeral
unfolding num
returns-clause-numeral c =
    let capped = numeral_of_capped c.split_sign-is_negative.result.1 (digits_number c.split_sign-is_negative.result.0.now) in
    cc

pub returns-clause-texts : goal.returns-clause-texts
returns-clause-texts c = λ number. (number_text_of_num c.args.text.now number, num_of_number_text c.args.text.now number)
