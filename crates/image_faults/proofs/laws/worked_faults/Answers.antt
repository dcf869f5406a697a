use Rattle.image_faults.proofs.FaultRows.{magic_row, version_row, profile_row, behind_row}
use Rattle.image_faults.proofs.laws.worked_faults.Goals as goal

pub returns-clause-magic : goal.returns-clause-magic
returns-clause-magic c = magic_row

pub returns-clause-version : goal.returns-clause-version
returns-clause-version c = version_row

pub returns-clause-profile : goal.returns-clause-profile
returns-clause-profile c = profile_row

pub returns-clause-behind : goal.returns-clause-behind
returns-clause-behind c = behind_row
