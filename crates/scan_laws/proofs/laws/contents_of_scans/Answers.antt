use Rattle.scan_laws.proofs.Contents.{files_are_contents, lines_stay_contents}
use Rattle.scan_laws.proofs.laws.contents_of_scans.Goals as goal

pub returns-clause-files : goal.returns-clause-files
returns-clause-files c = files_are_contents

pub returns-clause-lines : goal.returns-clause-lines
returns-clause-lines c = lines_stay_contents
