mod CaseTests
