use Rattle.gate_journal.proofs.RecordLemmas.{area_unique}
use Rattle.gate_journal.proofs.law.image_and_records_of_an_area.Goals as goal

pub returns : goal.returns
returns c = λ file image other records others fits fits_other a b. area_unique file image other records others (record { fits = fits; area = a }) (record { fits = fits_other; area = b })
