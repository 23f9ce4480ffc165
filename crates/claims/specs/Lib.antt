-- ---- what is promised to the customer, demand by demand: of the rules
pub mod Demands
pub mod Promises
pub mod Strict
pub mod Sources
-- ---- of the code, over its contracts
pub mod Allowed
pub mod Memories
pub mod Lending
pub mod Code
pub mod Sessions
pub mod CodeSteps
pub mod CodeAgreement
pub mod CodeSources
pub mod CodeExport
pub mod CodeImport
pub mod CodeCounts
pub mod CodeWhy
pub mod CodePrinted
pub mod Rows
pub mod CodeRows
pub mod CodeSheets
pub mod Checking
pub mod Once
pub mod Branching
