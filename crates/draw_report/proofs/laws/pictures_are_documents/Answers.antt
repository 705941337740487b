use Rattle.draw_report.proofs.Reading.{writes_documents}
use Rattle.draw_report.proofs.laws.pictures_are_documents.Goals as goal

pub returns : goal.returns
returns c = writes_documents
