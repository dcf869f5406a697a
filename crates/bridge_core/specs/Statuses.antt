-- The exit status of each status, and its line on standard error.
use Rattle.std.specs.Prelude.{ℕ, List, [], ◌++◌, codes}
use Rattle.std.specs.Fmt.{decimal}
use Rattle.bridge_core.specs.declared.status.Status.{Status}
use Rattle.bridge_core.specs.declared.status.Status.TheVariants.{Done, Words, Uninitialised, Initialised, Damaged, BadFrame, CutFrame, DiskFault, SourceFault, SinkFault, NoMemory, InputLimit, PortFault, BadSnapshot, TestFailed}

abbrev pub number_of : Status → ℕ
number_of Done = 0
number_of Words = 2
number_of Uninitialised = 3
number_of Initialised = 3
number_of (Damaged file at) = 3
number_of (BadFrame offset) = 4
number_of (CutFrame offset) = 4
number_of DiskFault = 5
number_of SourceFault = 6
number_of SinkFault = 7
number_of NoMemory = 8
number_of InputLimit = 9
number_of PortFault = 10
number_of (BadSnapshot at) = 11
number_of (TestFailed block) = 12

-- the line on standard error of each status
abbrev pub line_of : Status → List ℕ
line_of Done = []
line_of Words = codes "bad words"
line_of Uninitialised = codes "not initialised"
line_of Initialised = codes "already initialised"
line_of (Damaged file at) = codes "damaged file " ++ decimal file ++ codes " at " ++ decimal at
line_of (BadFrame offset) = codes "bad frame at " ++ decimal offset
line_of (CutFrame offset) = codes "cut frame at " ++ decimal offset
line_of DiskFault = codes "disk fault"
line_of SourceFault = codes "read fault"
line_of SinkFault = codes "write fault"
line_of NoMemory = codes "out of memory"
line_of InputLimit = codes "input limit"
line_of PortFault = codes "port fault"
line_of (BadSnapshot at) = codes "bad snapshot at " ++ decimal at
line_of (TestFailed block) = codes "self-test failed at block " ++ decimal block
