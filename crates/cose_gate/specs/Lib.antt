pub mod ElementFaults
pub mod Forms
pub mod Gate
pub mod Opening
pub mod Stated
pub mod StreamFaults
pub mod Streaming
pub use Rattle.cose_gate_core.specs.Asked
pub use Rattle.cose_gate_core.specs.Calls
pub use Rattle.cose_gate_core.specs.Findings
pub use Rattle.cose_gate_core.specs.GateRun
pub use Rattle.cose_gate_core.specs.Lent
pub use Rattle.cose_gate_core.specs.Misshapen
pub use Rattle.cose_gate_core.specs.Outcome
pub use Rattle.cose_gate_core.specs.Passing
pub use Rattle.cose_gate_core.specs.Questions
pub use Rattle.cose_gate_core.specs.Recorded
pub use Rattle.cose_gate_core.specs.Run
pub use Rattle.cose_gate_core.specs.CodeLimits
pub use Rattle.cose_gate_core.specs.declared.about.MessageKind
pub use Rattle.cose_gate_core.specs.declared.gating.Counts
pub use Rattle.cose_gate_core.specs.declared.gating.GateFault
pub use Rattle.cose_gate_core.specs.declared.report.Entry
pub use Rattle.cose_gate_core.specs.declared.report.Refusal
pub use Rattle.cose_gate_core.specs.declared.report.Verdict
pub use Rattle.cose_gate_core.specs.Anew
pub use Rattle.cose_gate_core.specs.Fixed
pub use Rattle.cose_gate_core.specs.Narrow
pub use Rattle.cose_gate_core.specs.Output
pub use Rattle.cose_gate_core.specs.Runs
pub use Rattle.cose_gate_core.specs.DeviceFault
pub use Rattle.cose_gate_core.specs.Framing
pub use Rattle.cose_gate_core.specs.Title
pub use Rattle.cose_gate_core.specs.Views
pub use Rattle.cose_gate_core.specs.Head
pub use Rattle.cose_gate_core.specs.Encoding
pub use Rattle.cose_gate_core.specs.Tree
pub use Rattle.cose_gate_core.specs.SemanticKind
pub use Rattle.cose_gate_core.specs.Damage
pub use Rattle.cose_gate_core.specs.Front
pub use Rattle.cose_gate_core.specs.Items
pub use Rattle.cose_gate_core.specs.Meaning
pub use Rattle.cose_gate_core.specs.Reading
pub use Rattle.cose_gate_core.specs.Spelling
pub use Rattle.cose_gate_core.specs.ReadError
pub use Rattle.cose_gate_core.specs.Faults
pub use Rattle.cose_gate_core.specs.Fields
pub use Rattle.cose_gate_core.specs.LabelFields
pub use Rattle.cose_gate_core.specs.Headers
pub use Rattle.cose_gate_core.specs.Structure
pub use Rattle.cose_gate_core.specs.Kinds
pub use Rattle.cose_gate_core.specs.Labels
pub use Rattle.cose_gate_core.specs.LabelView
pub use Rattle.cose_gate_core.specs.HeaderView
pub use Rattle.cose_gate_core.specs.Written
pub use Rattle.cose_gate_core.specs.Wrong
pub use Rattle.cose_gate_core.specs.CoseError
pub use Rattle.cose_gate_core.specs.Header
pub use Rattle.cose_gate_core.specs.ProtectedHeader
pub use Rattle.cose_gate_core.specs.PartShapes
pub use Rattle.cose_gate_core.specs.PartsWritten
pub use Rattle.cose_gate_core.specs.WrongParts
pub use Rattle.cose_gate_core.specs.RecipientFields
pub use Rattle.cose_gate_core.specs.RecipientShapes
pub use Rattle.cose_gate_core.specs.RecipientView
pub use Rattle.cose_gate_core.specs.RecipientsWritten
pub use Rattle.cose_gate_core.specs.WrongRecipients
pub use Rattle.cose_gate_core.specs.CoseRecipient
pub use Rattle.cose_gate_core.specs.MacedFields
pub use Rattle.cose_gate_core.specs.MacedShapes
pub use Rattle.cose_gate_core.specs.MacedStructure
pub use Rattle.cose_gate_core.specs.MacedView
pub use Rattle.cose_gate_core.specs.MacedWritten
pub use Rattle.cose_gate_core.specs.WrongMaced
pub use Rattle.cose_gate_core.specs.SignedFields
pub use Rattle.cose_gate_core.specs.SignedShapes
pub use Rattle.cose_gate_core.specs.SignedStructure
pub use Rattle.cose_gate_core.specs.SignedView
pub use Rattle.cose_gate_core.specs.SignedWritten
pub use Rattle.cose_gate_core.specs.WrongSigned
pub use Rattle.coset_keys.specs.Fields as KeyFields
pub use Rattle.coset_keys.specs.Keys
pub use Rattle.coset_keys.specs.View as KeyView
pub use Rattle.coset_keys.specs.Written as KeysWritten
pub use Rattle.coset_keys.specs.Wrong as WrongKeys
pub use Rattle.coset_keys.specs.declared.key.CoseKey
pub use Rattle.coset_keys.specs.declared.key.CoseKeySet
pub use Rattle.cose_gate_program.specs.Beginning
pub use Rattle.cose_gate_program.specs.Judge as HmacJudges
pub use Rattle.cose_gate_program.specs.Keys as HmacKeys
pub use Rattle.cose_gate_program.specs.Judging as HmacTags
pub use Rattle.cose_rules.specs.Headers as HeaderRules
pub use Rattle.cose_rules.specs.Keys as KeyRules
pub use Rattle.cose_rules.specs.Labels as RuleLabels
pub use Rattle.cose_rules.specs.Rule
pub use Rattle.cose_gate_program.specs.InBlocks
pub use Rattle.cose_gate_program.specs.Lines
pub use Rattle.cose_gate_program.specs.Program
pub use Rattle.cose_gate_program.specs.Telling
pub use Rattle.cose_gate_program.specs.Words
pub use Rattle.cose_gate_program.specs.Writing
pub use Rattle.cose_gate_program.specs.declared.telling.Notice
pub use Rattle.cose_gate_records.specs.Framing as RecordFraming
pub use Rattle.cose_gate_records.specs.Kept as RecordsKept
pub use Rattle.cose_gate_records.specs.Records
pub use Rattle.cose_gate_records.specs.KeyHeaders
pub use Rattle.cose_gate_records.specs.Verifying
pub use Rattle.cose_hmac.specs.Hmac
pub use Rattle.cose_gate_core.specs.Terms
