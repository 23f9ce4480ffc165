-- The folder BothMachines: the tagged machine against the paper's abstract machine: how two states match, and that they go on matching.
pub mod Match
pub mod Keeps
pub mod Verdicts
pub mod Commits
pub mod ReadTags
pub mod Isolate
pub mod OneStep
pub mod Runs
pub mod Start
pub mod Changes
pub mod Agreement
pub mod LoadedRows
